pub mod Places
pub mod Registers
pub mod Writes
