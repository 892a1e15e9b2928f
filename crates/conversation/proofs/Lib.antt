pub mod Answering
pub mod Stepping
