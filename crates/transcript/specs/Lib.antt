pub mod Record
pub mod Tally
pub mod Piece
pub mod Summary
pub mod Setup
