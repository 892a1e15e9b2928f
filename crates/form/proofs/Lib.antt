pub mod Shows
pub mod Joined
