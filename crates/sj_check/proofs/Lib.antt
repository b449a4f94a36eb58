pub mod BlockDisks
pub mod Completing
pub mod Counting
pub mod Keeping
pub mod Legality
pub mod Tasks
pub mod Traces
pub mod Words
