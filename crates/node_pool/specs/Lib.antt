pub mod Exits
pub mod Keeping
pub mod Pools
