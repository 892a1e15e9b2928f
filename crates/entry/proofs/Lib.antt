pub mod Completions
pub mod Submissions
pub mod Exactly
pub mod Untouched
