pub mod Values
pub mod Rows
pub mod Utf16Runs
pub mod WordBytes
pub mod ByteRuns
