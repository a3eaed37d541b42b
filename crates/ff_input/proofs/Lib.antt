pub mod AskedParts
pub mod Taken
