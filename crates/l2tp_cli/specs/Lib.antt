pub mod Exits
pub mod Words
pub mod Texts
pub mod Due
pub mod Ends
pub mod Makes
pub mod Runs
