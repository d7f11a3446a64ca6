pub mod Exits
pub mod Words
pub mod Texts
pub mod Captures
pub mod Due
pub mod Ends
