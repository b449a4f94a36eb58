pub mod Footprints
pub mod Operands
pub mod Placing
pub mod Tasks
