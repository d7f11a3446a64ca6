mod Computing
mod Computed
mod Weights
