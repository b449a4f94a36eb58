pub mod Ready
pub mod Unready
pub mod Work
pub mod Input
