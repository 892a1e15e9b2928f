pub mod Named
pub mod Meaning
