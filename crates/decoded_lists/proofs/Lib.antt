pub mod Cuts
pub mod Theorems
