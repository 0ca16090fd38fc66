pub mod Replaced
pub mod Calls
pub mod Statements
