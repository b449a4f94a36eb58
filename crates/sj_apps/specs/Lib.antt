pub mod Summary
pub mod Generated
pub mod Product
pub mod Walks
pub mod Shortest
pub mod Draft
pub mod Application
pub mod Solution
