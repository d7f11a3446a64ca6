pub mod Steps
mod Taken
mod Parts
