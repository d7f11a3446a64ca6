pub mod Congestion
pub mod Kept
pub mod Queue
pub mod Window
pub mod Outbox
pub mod Whole
pub mod History
