pub mod Books
pub mod Records
pub mod Told
pub mod Spelling
