pub mod Calls
pub mod Chain
pub mod Numbering
pub mod Promise
pub mod Scene
