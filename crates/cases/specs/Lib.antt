pub mod Cases
pub mod ArbiterExamples
pub mod PrpExamples
