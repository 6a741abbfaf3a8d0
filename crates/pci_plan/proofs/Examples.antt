-- Worked examples: what the definitions of comparing, making and applying say of two small functions, one module a subject.
pub mod Behind
pub mod Comparing
pub mod Making
pub mod Applying
pub mod Standing
pub mod Headers
