pub mod Accepted
pub mod Entered
pub mod Load
pub mod Simple
