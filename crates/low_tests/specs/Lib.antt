pub mod Countable
pub mod InOrder
