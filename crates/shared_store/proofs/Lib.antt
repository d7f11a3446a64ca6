mod Settling
mod Counting
mod Keeping
