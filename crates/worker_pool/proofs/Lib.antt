pub mod Times
pub mod Tallies
pub mod Pools
