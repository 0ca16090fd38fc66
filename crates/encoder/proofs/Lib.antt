pub mod Scalars
pub mod Rooms
pub mod Filling
pub mod Counting
pub mod Most
pub mod Ones
pub mod PairSlots
pub mod Calls
