pub mod Admitting
pub mod CallerLemmas
pub mod Choosing
pub mod Kept
pub mod Putting
pub mod Shown
