pub mod Changes
pub mod Gives
pub mod Told
