pub mod Fields
pub mod Wholes
pub mod Cutting
pub mod Handed
pub mod Joined
pub mod Exactly
pub mod Examples
pub mod Held
