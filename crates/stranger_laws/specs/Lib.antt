pub mod Looks
pub mod Lines
pub mod Others
