pub mod Listing
pub mod Made
mod Waiting
mod Taking
