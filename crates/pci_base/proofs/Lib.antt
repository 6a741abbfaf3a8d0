pub mod WindowKinds
pub mod Puts
pub mod Accesses
pub mod Digits
