pub mod Window
pub mod WindowFields
