mod Inverse
pub mod Lookups
mod Switching
