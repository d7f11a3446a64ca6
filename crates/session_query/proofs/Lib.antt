pub mod Order
pub mod Differences
pub mod Batches
