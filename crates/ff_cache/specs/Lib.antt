pub mod Cache
pub mod CacheFields
pub mod Nv
pub mod NvFields
pub mod Slots
