pub mod Scan
pub mod Walking
pub mod Adding
pub mod Told
pub mod Calling
