pub mod Drawing
pub mod Making
pub mod Summaries
pub mod Words
