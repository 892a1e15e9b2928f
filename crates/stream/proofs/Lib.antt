pub mod Known
pub mod Numbers
