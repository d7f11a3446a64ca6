mod Books
pub mod Nodes
pub mod Runs
