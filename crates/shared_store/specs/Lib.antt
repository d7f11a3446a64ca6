pub mod Settled
pub mod Settling
pub mod Shared
pub mod Stops
