pub mod Mended
pub mod Program
pub mod Statements
