pub mod Books
pub mod Starts
