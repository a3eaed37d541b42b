pub mod DeviceLines
mod MaskBits
pub mod MaskLines
pub mod Overlaid
pub mod PageCounts
pub mod PageOverlaid
