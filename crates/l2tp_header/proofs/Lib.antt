mod Heads
pub mod Places
pub mod Laws
pub mod Again
