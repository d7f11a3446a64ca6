pub mod Contents
pub mod Steps
pub mod Orders
pub mod Folds
pub mod Whole
pub mod Counts
pub mod Sizes
