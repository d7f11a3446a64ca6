pub mod Options
pub mod Packets
