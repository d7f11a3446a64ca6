pub mod Pieces
pub mod Heads
pub mod Frames
pub mod Tags
