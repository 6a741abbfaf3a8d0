pub mod Amounts
pub mod Texts
pub mod Headers
pub mod Messages
pub mod Functions
pub mod Chains
pub mod Shows
pub mod HexPushes
