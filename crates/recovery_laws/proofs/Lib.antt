pub mod Alike
pub mod Nodes
mod Gone
pub mod Established
pub mod Marks
mod Closed
pub mod Epochs
pub mod Crashes
pub mod Joining
pub mod Pairs
pub mod Weights
pub mod Same
pub mod Covered
pub mod Answered
pub mod Asking
pub mod Answers
pub mod Hearing
pub mod Growing
pub mod Left
