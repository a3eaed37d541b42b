pub mod Frame
pub mod Frames
pub mod FramesFields
pub mod UsedFrames
