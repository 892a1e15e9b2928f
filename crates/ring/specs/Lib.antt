pub mod Slots
pub mod Doorbell
pub mod Reader
