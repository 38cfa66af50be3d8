pub mod Calling
pub mod Good
pub mod Keeping
pub mod Refusing
pub mod SameFixtures
pub mod Spans
pub mod Writing
