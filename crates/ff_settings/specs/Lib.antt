pub mod Bounds
pub mod Document
pub mod Given
pub mod Keys
pub mod Kinds
pub mod Names
pub mod Settings
pub mod Values
