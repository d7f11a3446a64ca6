pub mod Chains
pub mod Lines
pub mod Runs
pub mod Cuts
pub mod Falls
