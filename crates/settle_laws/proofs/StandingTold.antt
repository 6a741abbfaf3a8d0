pub mod Order
pub mod Standing
pub mod Beside
pub mod Passes
pub mod Kept
pub mod Untold
