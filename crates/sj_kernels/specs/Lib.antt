pub mod Has
pub mod Last
pub mod Rows
pub mod Panels
pub mod Turned
pub mod RingLaws
