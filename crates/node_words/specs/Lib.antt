pub mod Helps
pub mod Options
pub mod Plans
