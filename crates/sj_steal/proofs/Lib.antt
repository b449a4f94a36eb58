pub mod Accounts
pub mod Passes
pub mod Stakes
