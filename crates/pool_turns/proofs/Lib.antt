pub mod Drawing
pub mod Following
pub mod Turning
