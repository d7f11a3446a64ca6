pub mod Lengths
pub mod Answers
pub mod Opening
pub mod Ignoring
pub mod Counting
pub mod Sending
pub mod Answering
