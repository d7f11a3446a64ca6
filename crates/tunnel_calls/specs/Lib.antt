pub mod Remotes
pub mod Replays
pub mod Telling
