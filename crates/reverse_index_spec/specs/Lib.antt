pub mod ReverseIndex
pub mod Calls
pub mod Statements
pub mod Samples
