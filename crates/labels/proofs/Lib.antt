pub mod Ends
pub mod LookUp
pub mod Names
