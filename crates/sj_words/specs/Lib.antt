pub mod Spelling
pub mod Steps
pub mod Command
pub mod Options
pub mod Machine
pub mod Written
