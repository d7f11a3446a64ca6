pub mod Alike
pub mod Outputs
pub mod Telling
