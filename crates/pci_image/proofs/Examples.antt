-- Worked examples: what the definitions say of plain images.
pub mod Headers
