mod Listing
pub mod Finding
pub mod Standing
