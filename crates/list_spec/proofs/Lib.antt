pub mod Parts
pub mod Turns
pub mod Lies
pub mod Faults
pub mod Theorems
pub mod Samples
