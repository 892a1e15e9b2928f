pub mod Spoken
pub mod Given
pub mod Answers
