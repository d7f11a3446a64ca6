pub mod Link
pub mod Frames
pub mod Turns
pub mod Laws
pub mod Calling
pub mod Told
