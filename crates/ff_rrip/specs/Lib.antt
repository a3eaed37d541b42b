pub mod Oldest
pub mod Ways
pub mod WaysFields
