pub mod Accounts
pub mod Facts
pub mod Epochs
pub mod Recoveries
pub mod Heard
pub mod Lines
pub mod Steps
pub mod Whole
