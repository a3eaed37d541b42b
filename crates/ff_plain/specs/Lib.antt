pub mod Plain
pub mod PlainFields
