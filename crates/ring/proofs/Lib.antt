pub mod Wrap
pub mod Steps
pub mod Doorbells
pub mod Counts
pub mod Exact
pub mod Exactly
pub mod Posting
pub mod Phase
