pub mod WordsValue
pub mod FixedPartsValue
pub mod Subtractive
