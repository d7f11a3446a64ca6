pub mod Subscribers
