pub mod Epochs
pub mod Answers
pub mod Numbers
