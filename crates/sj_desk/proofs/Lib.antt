pub mod Lists
pub mod Steps
pub mod Seats
pub mod Ends
pub mod Places
