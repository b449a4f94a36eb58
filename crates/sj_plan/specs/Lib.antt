pub mod Interval
pub mod Parts
pub mod Paste
pub mod Pieces
pub mod Rect
pub mod Window
