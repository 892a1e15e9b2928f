pub mod Rules
pub mod Refusal
