pub mod Tests
pub mod Tables
pub mod Cases
pub mod Exactly
pub mod Refusals
