pub mod Codes
pub mod Packets
pub mod ReadBack
