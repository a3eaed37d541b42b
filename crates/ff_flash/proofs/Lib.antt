pub mod NextInjected
pub mod Operated
pub mod OperationCells
pub mod PageSlots
pub mod Rising
pub mod SealedCells
pub mod SimCells
pub mod SimOperations
