pub mod Table
pub mod Pairs
pub mod Reading
pub mod Walk
pub mod Grammar
pub mod Faults
pub mod Uncovering
pub mod HiddenRequests
