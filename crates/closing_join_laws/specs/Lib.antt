pub mod Moves
pub mod Lost
