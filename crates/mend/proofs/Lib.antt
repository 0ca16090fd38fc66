pub mod Refusals
pub mod Begins
pub mod Wrote
pub mod Files
pub mod Runs
pub mod Whole
