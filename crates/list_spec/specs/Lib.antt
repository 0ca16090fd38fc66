pub mod Lines
pub mod ListCall
pub mod Spans
pub mod Statements
pub mod Samples
