pub mod Apart
pub mod Cores
pub mod Tunnels
pub mod Labels
pub mod Plans
