pub mod Table
pub mod Options
pub mod Hearing
pub mod Steps
pub mod Packets
pub mod Laws
