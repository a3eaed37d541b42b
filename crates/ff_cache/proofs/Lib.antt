mod Choosing
mod Fresh
pub mod Full
pub mod Held
mod Mounted
mod Put
pub mod Sets
