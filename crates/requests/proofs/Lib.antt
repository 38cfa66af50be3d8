pub mod Answers
pub mod Frames
