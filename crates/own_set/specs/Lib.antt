pub mod Turns
pub mod NotRun
