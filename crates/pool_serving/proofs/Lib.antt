pub mod Answering
pub mod Passes
pub mod Giving
pub mod Parts
pub mod Turns
pub mod Served
