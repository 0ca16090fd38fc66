pub mod Shapes
pub mod Filling
pub mod Encoders
pub mod Known
pub mod Fours
