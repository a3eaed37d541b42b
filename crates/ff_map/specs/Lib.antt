pub mod MappedPages
pub mod Owners
pub mod PageMap
pub mod PageMapFields
