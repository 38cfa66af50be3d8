pub mod BranchOnly
pub mod BranchReadBack
pub mod BranchReplies
pub mod Carried
pub mod Leads
pub mod PairBits
pub mod Pairs
