mod Passing
mod Committing
mod Lines
mod Silent
mod Others
mod Kept
