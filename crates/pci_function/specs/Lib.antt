pub mod Fault
pub mod Values
pub mod Decoding
pub mod Profile
