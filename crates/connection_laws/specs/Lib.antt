pub mod Accounts
pub mod Facts
pub mod Steps
pub mod Channels
