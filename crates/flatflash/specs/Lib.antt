pub mod Ending
pub mod Loads
pub mod Rules
pub mod Statuses
pub mod Words
