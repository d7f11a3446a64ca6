pub mod Firsts
pub mod Waits
