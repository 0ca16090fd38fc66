pub mod Histories
pub mod Statements
pub mod Whole
pub mod Samples
pub mod Orders
pub mod Fields
