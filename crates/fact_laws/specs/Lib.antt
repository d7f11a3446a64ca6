pub mod Cells
pub mod Draws
pub mod Epochs
pub mod Ids
