pub mod Books
pub mod Chains
pub mod Courses
pub mod Jobs
pub mod Pending
pub mod Walks
