pub mod Limits
pub mod Memory
pub mod Optional
pub mod Packets
pub mod ReadCauses
pub mod Reads
