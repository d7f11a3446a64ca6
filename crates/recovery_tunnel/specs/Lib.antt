pub mod Judging
pub mod Secrets
pub mod Connections
pub mod Attempts
pub mod Answers
pub mod Either
pub mod History
