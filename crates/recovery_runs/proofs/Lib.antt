pub mod Computing
pub mod Runs
pub mod Reports
pub mod Queries
pub mod Ends
pub mod Turns
pub mod Batches
pub mod Forged
