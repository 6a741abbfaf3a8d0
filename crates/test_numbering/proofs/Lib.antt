pub mod Firsts
pub mod Nearest
