pub mod Completion
pub mod Submission
