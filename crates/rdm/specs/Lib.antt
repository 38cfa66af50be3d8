pub mod Question
pub mod ReadReply
pub mod Received
pub mod Reply
