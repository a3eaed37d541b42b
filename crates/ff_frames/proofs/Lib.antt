pub mod FreeCount
pub mod FreshFrames
pub mod Replaced
pub mod Unused
