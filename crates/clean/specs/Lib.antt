pub mod Checking
pub mod Code
pub mod Statements
