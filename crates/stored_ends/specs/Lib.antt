pub mod Cores
pub mod Steps
pub mod Opening
