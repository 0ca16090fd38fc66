pub mod Spans
pub mod Shares
pub mod Telling
pub mod Theorems
pub mod Samples
