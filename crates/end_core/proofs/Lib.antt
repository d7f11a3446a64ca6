mod Saying
pub mod ByTunnel
pub mod Committed
pub mod Draws
pub mod Plans
pub mod Returning
pub mod Steps
