pub mod Amounts
pub mod BridgeLines
pub mod CapabilityLines
pub mod FunctionLines
pub mod HeaderLines
pub mod RegionLines
pub mod Shows
pub mod Spans
