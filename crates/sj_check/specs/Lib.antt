pub mod Judging
pub mod Refusal
pub mod Watching
