pub mod Exits
pub mod Texts
pub mod Runs
pub mod Ends
