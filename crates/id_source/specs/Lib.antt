pub mod Spaces
pub mod Taking
