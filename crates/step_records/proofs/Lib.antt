pub mod Ceilings
pub mod Unmarked
