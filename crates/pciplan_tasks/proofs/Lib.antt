mod Sizes
mod PlainWrites
mod Tasks
pub mod Faults
mod Maps
mod NoMap
mod WithNothing
mod Saying
mod Untaken
mod ShownSlots
mod SettlingTold
mod SettlingWrites
mod ByWords
