pub mod Vocabulary
pub mod Forms
pub mod State
pub mod Replies
pub mod Commands
pub mod Line
