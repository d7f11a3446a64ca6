pub mod Turns
pub mod Reading
pub mod Passing
pub mod Strangers
