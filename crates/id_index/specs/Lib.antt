pub mod Keys
pub mod Indexes
pub mod Firsts
