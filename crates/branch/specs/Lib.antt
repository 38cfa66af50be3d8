pub mod BranchReply
pub mod Overlaid
