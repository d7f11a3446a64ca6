pub mod Tallies
pub mod Pools
pub mod Counting
