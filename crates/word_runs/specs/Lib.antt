pub mod Units
pub mod Bytes
