pub mod Bus
pub mod Received
pub mod SearchAddress
pub mod Sent
pub mod State
pub mod Unit
