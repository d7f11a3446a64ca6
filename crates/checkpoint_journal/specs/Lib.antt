pub mod Format
pub mod Commit
pub mod Found
pub mod State
pub mod Answers
pub mod Laws
