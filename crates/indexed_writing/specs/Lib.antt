pub mod Call
pub mod Statements
pub mod Samples
