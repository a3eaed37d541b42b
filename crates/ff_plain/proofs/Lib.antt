mod PlainDevice
pub mod PlainPages
