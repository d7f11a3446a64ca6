pub mod Records
pub mod Found
pub mod Opening
pub mod Several
pub mod Compacted
