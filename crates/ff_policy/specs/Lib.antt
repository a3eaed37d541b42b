pub mod Counters
pub mod CountersFields
pub mod Policy
pub mod PolicyFields
pub mod Tuner
