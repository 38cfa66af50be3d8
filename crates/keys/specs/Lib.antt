pub mod Address
pub mod Family
pub mod KeyNumbers
pub mod RandomAddress
pub mod Uid
pub mod RandomAddresses
pub mod Uids
