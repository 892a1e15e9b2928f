pub mod Playing
pub mod Exactly
pub mod Joined
pub mod AsRun
pub mod Reaches
pub mod Fits
