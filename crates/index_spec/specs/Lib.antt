pub mod IndexLine
pub mod IndexRead
pub mod IndexCall
pub mod Statements
