pub mod Numbers
pub mod Outgoing
