pub mod Digits
pub mod Equals
pub mod Spelled
pub mod Walking
pub mod Reading
pub mod Writing
pub mod Passing
