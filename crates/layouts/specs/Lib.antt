pub mod Rows
pub mod Fours
pub mod Ranges
pub mod Offsets
pub mod Views
