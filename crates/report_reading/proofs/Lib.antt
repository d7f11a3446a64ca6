pub mod FieldWords
pub mod Entries
pub mod Again
pub mod Found
pub mod Carried
