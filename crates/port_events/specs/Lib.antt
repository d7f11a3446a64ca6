pub mod Echoes
pub mod Feeding
pub mod Giving
pub mod Laws
pub mod Taking
