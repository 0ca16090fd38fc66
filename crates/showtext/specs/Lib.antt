pub mod Code
pub mod Output
pub mod Refusals
pub mod Program
pub mod Statements
