pub mod Spelled
pub mod Making
pub mod Opening
pub mod Silence
pub mod Ending
pub mod Telling
pub mod Staying
pub mod Beginning
