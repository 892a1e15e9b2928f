pub mod Tables
pub mod Words
pub mod Stores
pub mod Setters
pub mod Fresh
pub mod Unique
