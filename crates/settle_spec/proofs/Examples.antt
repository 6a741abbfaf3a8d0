-- Worked examples: what the definitions of settling say of small trees, one module a subject.
pub mod Settlings
pub mod NewWindows
pub mod Lists
pub mod Stands
pub mod Places
pub mod Writes
pub mod Growth
pub mod Spares
pub mod Assumed
pub mod ToldPlaces
pub mod ToldKeepsOff
pub mod ToldCommand
pub mod ToldSpares
pub mod ToldAgain
