pub mod Splits
pub mod Tells
pub mod Did
pub mod Stops
pub mod Places
