pub mod Bits
pub mod Counting
pub mod First
pub mod Masks
pub mod Tags
pub mod Lowest
pub mod Some
