mod Counting
mod Taking
