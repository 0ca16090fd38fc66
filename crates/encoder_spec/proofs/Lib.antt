pub mod Encoders
pub mod Running
pub mod Switching
pub mod Writing
pub mod Pieces
pub mod Rooms
pub mod Calls
pub mod Samples
