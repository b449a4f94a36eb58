pub mod Entries
pub mod Entry
pub mod Store
pub mod Victims
