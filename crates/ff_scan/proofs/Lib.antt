pub mod Covering
pub mod Mappings
pub mod Newest
pub mod Placing
pub mod Probed
pub mod Versions
