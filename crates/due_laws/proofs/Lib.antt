mod Quiet
mod Bounds
mod Growing
mod Skips
mod Busy
