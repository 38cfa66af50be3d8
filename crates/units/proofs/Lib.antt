pub mod Frames
pub mod Loops
