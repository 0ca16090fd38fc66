pub mod Layout
pub mod Paired
