pub mod Masks
pub mod Inside
