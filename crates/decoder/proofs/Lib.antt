pub mod Records
pub mod Parts
pub mod Numbers
pub mod Checks
pub mod Totals
