pub mod Shapes
pub mod Theorems
pub mod Calls
pub mod Samples
