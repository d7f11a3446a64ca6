pub mod KnownBytes
pub mod Lines
pub mod Stopping
