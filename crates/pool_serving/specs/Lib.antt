pub mod Faults
pub mod Handing
pub mod Serving
