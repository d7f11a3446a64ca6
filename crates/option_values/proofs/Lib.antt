pub mod Addresses
pub mod Numbers
