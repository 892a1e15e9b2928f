pub mod Sizes
pub mod Inside
pub mod Texts
pub mod Steps
