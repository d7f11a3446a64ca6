pub mod Names
pub mod Letters
pub mod Tunnels
pub mod Channels
pub mod Calls
pub mod Worlds
pub mod Moves
