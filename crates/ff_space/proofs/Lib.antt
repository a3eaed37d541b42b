pub mod Changed
pub mod Collectable
pub mod Counted
pub mod Fewest
