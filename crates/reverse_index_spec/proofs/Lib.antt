pub mod Least
pub mod Hits
pub mod LookUp
pub mod Building
pub mod Inserting
pub mod Lines
pub mod Theorems
pub mod Samples
