pub mod Tested
pub mod ThreePasses
pub mod HostWrites
pub mod TwoLifetimes
pub mod LastNumber
pub mod Replays
pub mod TwoQueues
