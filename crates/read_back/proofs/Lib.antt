pub mod Decoding
pub mod ReadBack
