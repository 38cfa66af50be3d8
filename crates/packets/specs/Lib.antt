pub mod Opened
pub mod Packet
pub mod Parameter
