pub mod Cells
pub mod Rows
pub mod Lowering
pub mod Limits
pub mod Job
pub mod Delivering
pub mod Seen
pub mod Progress
