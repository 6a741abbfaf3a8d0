pub mod Examples
pub mod Nothing
pub mod ToldNames
pub mod ToldNumbering
pub mod Reasons
pub mod Judging
pub mod Naming
pub mod Taken
pub mod Numbers
pub mod OneList
pub mod Determined
pub mod DeterminedTexts
pub mod LeastFaults
pub mod PlainLists
pub mod PlainTexts
pub mod Moving
pub mod Writing
pub mod Isa
pub mod Unclaimed
pub mod Snoop
pub mod ToldLines
pub mod ToldKept
pub mod ToldWhole
pub mod ToldRows
pub mod ToldFaults
pub mod ToldLengths
pub mod ToldInputs
pub mod NothingTold
pub mod NothingToldLists
pub mod ToldAdds
pub mod ToldEmpty
pub mod ToldSounding
pub mod ToldDetermined
pub mod ListTexts
pub mod Changes
pub mod ModelExamples
pub mod Kept
pub mod NoEnables
mod HeaderLaws
mod Asleep
mod Commands
mod ModelSnoop
mod Others
mod ShownWindows
mod Sockets
mod WindowBytes
pub mod Having
pub mod Freeing
pub mod MapNothing
pub mod MapExamples
pub mod MapDetermined
