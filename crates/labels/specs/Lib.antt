pub mod LookUp
pub mod Writing
