pub mod Phases
pub mod Begins
pub mod Connects
pub mod Closings
pub mod Opens
pub mod Sources
pub mod Steps
pub mod Next
