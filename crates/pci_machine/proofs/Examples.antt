-- Worked examples: what the definitions say of single accesses.
pub mod Failing
