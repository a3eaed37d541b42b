pub mod Ended
pub mod Generated
pub mod Told
