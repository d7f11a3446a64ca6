pub mod Names
pub mod Roles
pub mod Joined
pub mod Sessions
