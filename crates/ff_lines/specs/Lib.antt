pub mod BlankLine
pub mod DeviceState
pub mod LineMask
pub mod Overlay
pub mod PageSets
pub mod Posts
pub mod Works
