pub mod Matrix
pub mod Short
pub mod Lanes
pub mod Turns
pub mod Has
pub mod LeastArrays
pub mod LeastLaws
pub mod LibraryLaws
