mod Lines
mod Quiet
mod Records
