pub mod Going
pub mod Heard
pub mod Numbers
pub mod Restored
pub mod Sessions
pub mod Written
