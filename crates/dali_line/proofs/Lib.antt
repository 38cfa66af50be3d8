pub mod Heard
pub mod Makings
pub mod Probes
pub mod Spoken
pub mod Standing
