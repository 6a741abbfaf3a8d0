pub mod Fake
pub mod Tree
pub mod Stood
