pub mod Lists
pub mod Items
pub mod Done
pub mod Finishing
pub mod Opening
pub mod Passes
