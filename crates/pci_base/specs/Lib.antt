pub mod WindowKinds
pub mod Bounds
pub mod Ranges
pub mod Space
