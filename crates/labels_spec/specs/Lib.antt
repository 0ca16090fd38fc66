pub mod Labels
pub mod Statements
