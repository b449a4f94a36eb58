pub mod Finding
pub mod Adding
pub mod Views
pub mod Giving
