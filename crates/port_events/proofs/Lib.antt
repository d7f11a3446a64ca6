pub mod EventLaws
pub mod Gives
