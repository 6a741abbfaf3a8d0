pub mod HexWords
pub mod PoolWords
pub mod Without
pub mod RangeWords
pub mod Joined
pub mod ListWords
pub mod SlotWords
pub mod RisingSlots
pub mod HostLists
pub mod SpareWords
mod ModelWords
