pub mod Among
pub mod Fixtures
pub mod Meanings
