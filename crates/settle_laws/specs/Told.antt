pub mod OffLines
pub mod Ranges
pub mod Starts
pub mod Stops
pub mod Whole
