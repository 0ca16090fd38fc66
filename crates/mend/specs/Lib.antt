pub mod Refusals
pub mod Steps
pub mod Code
pub mod Files
pub mod Whole
