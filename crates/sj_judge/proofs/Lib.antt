pub mod Causes
pub mod FewLines
pub mod Passing
