pub mod Cores
pub mod Gives
pub mod Entering
pub mod Strangers
