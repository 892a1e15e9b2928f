pub mod Line
pub mod Numeral
pub mod Values
pub mod Arguments
