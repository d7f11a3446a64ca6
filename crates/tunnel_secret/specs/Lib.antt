pub mod Hiding
pub mod Holding
pub mod Revealing
pub mod Response
