pub mod BlockTable
pub mod BlockTableFields
pub mod Blocks
pub mod Choices
pub mod Scanned
