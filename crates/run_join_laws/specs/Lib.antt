pub mod Runs
pub mod Births
