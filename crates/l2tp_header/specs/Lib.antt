pub mod Flags
pub mod Spelling
pub mod Grammar
pub mod Faults
pub mod Reading
pub mod Again
pub mod Fields
