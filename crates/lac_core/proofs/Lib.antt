pub mod Entering
pub mod Quiet
mod Strangers
