pub mod Standing
pub mod Passes
pub mod Kept
pub mod Untold
