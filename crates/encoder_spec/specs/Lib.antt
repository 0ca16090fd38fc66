pub mod Writing
pub mod Pieces
pub mod Writer
pub mod Statements
pub mod Calls
pub mod Samples
