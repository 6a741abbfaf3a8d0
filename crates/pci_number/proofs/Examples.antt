-- Worked examples: what the definitions of numbering's steps say of small boards.
pub mod Closings
pub mod Asking
pub mod Bounds
