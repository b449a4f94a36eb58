pub mod Operands
pub mod Shortage
