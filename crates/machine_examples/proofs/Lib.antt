pub mod Computed
pub mod Holdings
pub mod Weights
pub mod Cuts
