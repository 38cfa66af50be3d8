pub mod Law
pub mod Listing
pub mod Nested
pub mod Phases
pub mod Ranks
pub mod Run
pub mod Walk
