pub mod Exports
pub mod Zeros
