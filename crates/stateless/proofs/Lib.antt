pub mod Lying
pub mod Values
pub mod Pokes
pub mod Sentences
pub mod Walks
