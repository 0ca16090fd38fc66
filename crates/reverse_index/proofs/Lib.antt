pub mod Chains
pub mod Places
pub mod Turns
pub mod Answers
