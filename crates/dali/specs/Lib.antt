pub mod Codes
pub mod Frame
pub mod Search
pub mod ShortAddress
