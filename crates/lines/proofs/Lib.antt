pub mod Gathers
pub mod Stepped
pub mod Cuts
pub mod Handed
pub mod Files
