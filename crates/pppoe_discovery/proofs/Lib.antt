pub mod Sizes
pub mod Admitted
pub mod Reading
pub mod Stages
pub mod Padts
