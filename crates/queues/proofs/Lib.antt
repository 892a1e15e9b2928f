pub mod Scans
pub mod Changes
pub mod Creates
