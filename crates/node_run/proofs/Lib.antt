mod Causes
mod Growing
mod Keeping
mod Lent
mod Returning
mod Viewing
