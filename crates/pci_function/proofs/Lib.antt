pub mod Decodes
pub mod Profiles
pub mod FirstHere
pub mod FirstDecoded
pub mod FirstIn
pub mod Examined
pub mod Registers
