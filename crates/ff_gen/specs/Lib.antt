pub mod Calls
pub mod Draws
pub mod Generated
