pub mod Layouts
pub mod Pairing
pub mod GbRuns
pub mod RangeSearch
