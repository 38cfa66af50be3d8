pub mod Counted
pub mod Meaning
pub mod Rules
pub mod Tables
pub mod Twice
