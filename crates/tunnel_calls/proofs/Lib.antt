pub mod ById
pub mod Here
pub mod Listing
