pub mod NextStep
pub mod Plb
pub mod PlbFields
pub mod Slot
