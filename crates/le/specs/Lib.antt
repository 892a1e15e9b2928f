pub mod Le
pub mod Memory
