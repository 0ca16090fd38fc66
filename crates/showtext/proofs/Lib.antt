pub mod Texts
pub mod Named
pub mod Buffers
pub mod Theorems
pub mod Runs
