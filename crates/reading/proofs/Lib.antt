pub mod Choosing
pub mod Counting
pub mod Handing
pub mod Loop
pub mod Staged
pub mod Waiting
pub mod Ends
pub mod Guards
