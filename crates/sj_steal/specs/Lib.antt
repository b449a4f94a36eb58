pub mod Facts
pub mod Account
