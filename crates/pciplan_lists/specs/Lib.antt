pub mod HostLists
pub mod PoolWords
pub mod Joined
pub mod ListWords
pub mod SlotWords
pub mod ModelWords
pub mod NameWords
pub mod SpareWords
