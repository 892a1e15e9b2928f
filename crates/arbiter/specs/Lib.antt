pub mod Word
pub mod Turns
pub mod Arbiter
