pub mod Report
pub mod Buffers
pub mod Whole
pub mod Theorems
