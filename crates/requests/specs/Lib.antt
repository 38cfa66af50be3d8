pub mod Answer
pub mod Room
pub mod Writing
