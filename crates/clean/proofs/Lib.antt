pub mod Theorems
pub mod Walking
