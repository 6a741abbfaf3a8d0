pub mod Blocks
pub mod Values
pub mod Lines
pub mod Whole
pub mod Lengths
pub mod After
pub mod Filled
pub mod Fronted
pub mod Texts
pub mod Told
pub mod Put
pub mod RowLine
pub mod SixteenLanes
pub mod TitleRuns
pub mod Tails
mod Marks
mod NamedBlocks
pub mod ToldAddresses
pub mod ToldDigits
pub mod ToldTaken
pub mod ToldParted
