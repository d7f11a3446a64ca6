pub mod Hearing
pub mod Steps
pub mod Moves
pub mod Roles
