pub mod Accesses
pub mod Told
