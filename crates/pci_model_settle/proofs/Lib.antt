mod Sleeping
mod Staying
mod SlotBlocks
mod Puts
pub mod MergedLines
pub mod HeldLines
pub mod PartAddresses
pub mod BridgesBySlot
mod DeviceLines
mod LeftDevices
