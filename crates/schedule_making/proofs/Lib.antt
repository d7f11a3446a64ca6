mod Computing
mod Fits
mod Makings
mod Opening
mod Runs
mod States
mod Sums
