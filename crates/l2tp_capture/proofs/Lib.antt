mod Limits
mod Ending
