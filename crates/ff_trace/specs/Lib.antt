pub mod Fields
pub mod Reading
pub mod Tally
pub mod Trace
pub mod Within
