pub mod Faults
pub mod Walking
pub mod Slots
