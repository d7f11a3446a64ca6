mod Refusals
mod Held
mod Coming
mod Nodes
pub mod Lines
mod Hosts
mod Staying
mod Room
pub mod Runs
mod Seen
mod Left
mod Answers
