pub mod Chunk
pub mod Entry
pub mod Fork
pub mod Pool
pub mod Queue
pub mod Root
