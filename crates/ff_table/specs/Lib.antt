pub mod Table
pub mod TableFields
