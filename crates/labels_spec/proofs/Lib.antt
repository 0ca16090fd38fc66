pub mod Trimming
pub mod Known
pub mod Call
