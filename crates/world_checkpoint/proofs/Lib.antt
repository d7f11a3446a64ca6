pub mod Crashes
pub mod Folds
