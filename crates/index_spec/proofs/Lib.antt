pub mod Reader
pub mod Call
