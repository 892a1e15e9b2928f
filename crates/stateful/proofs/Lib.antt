pub mod Made
pub mod Replays
