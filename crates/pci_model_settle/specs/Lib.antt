pub mod Unmoved
pub mod SleepTables
pub mod Listed
pub mod ClaimLines
pub mod LineValues
pub mod OffDevices
