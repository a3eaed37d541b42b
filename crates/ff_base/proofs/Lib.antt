pub mod Bounds
pub mod PageLines
