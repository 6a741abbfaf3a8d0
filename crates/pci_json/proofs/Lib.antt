pub mod Cuts
pub mod Indents
pub mod Firsts
pub mod Tokens
pub mod Steps
pub mod Largest
pub mod Choices
pub mod ReadBack
mod Values
mod Words
mod ProfileTexts
pub mod Texts
pub mod FaultMembers
pub mod FaultLists
pub mod ToldMembers
pub mod ToldLists
