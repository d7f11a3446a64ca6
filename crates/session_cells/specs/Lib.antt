pub mod Logs
pub mod Changes
pub mod Words
pub mod Rules
pub mod Tokens
