pub mod Records
pub mod Stops
pub mod Steps
