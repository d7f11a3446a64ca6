mod Ending
mod Counts
