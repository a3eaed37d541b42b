pub mod Count
pub mod Geometry
pub mod Page
