pub mod Appended
pub mod AppendedCalls
pub mod Ranges
pub mod Replies
pub mod Spent
