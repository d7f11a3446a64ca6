pub mod Ahead
pub mod Receiving
pub mod Window
