pub mod Numbers
pub mod Channel
pub mod Whole
pub mod History
pub mod Parts
