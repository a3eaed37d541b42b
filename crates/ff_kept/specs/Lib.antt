pub mod Keeping
pub mod Marked
pub mod Posted
pub mod Waiting
