pub mod Counts
pub mod Pieces
pub mod Rooms
pub mod SoFar
pub mod Sums
pub mod Wording
pub mod Wrongs
