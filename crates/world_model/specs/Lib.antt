pub mod Texts
pub mod World
pub mod Run
