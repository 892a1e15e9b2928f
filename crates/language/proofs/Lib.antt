pub mod Formed
pub mod Rows
pub mod Outside
