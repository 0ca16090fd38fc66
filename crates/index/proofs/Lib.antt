pub mod Cells
pub mod TableLengths
pub mod Parts
pub mod Search
