pub mod Record
pub mod Trace
