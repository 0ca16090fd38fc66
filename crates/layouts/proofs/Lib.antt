pub mod Rows
pub mod Fours
pub mod RangeOrder
