pub mod QuestionsRead
pub mod QuestionsReadBack
pub mod RepliesReadBack
