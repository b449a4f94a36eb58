pub mod Products
pub mod Panels
pub mod Turns
pub mod Places
pub mod Tiles
pub mod Groups
pub mod Last
