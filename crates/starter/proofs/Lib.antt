pub mod Masks
pub mod Verdicts
pub mod Takings
