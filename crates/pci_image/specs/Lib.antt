pub mod Bars
pub mod Caps
pub mod Faults
pub mod Header
pub mod Layouts
pub mod Registers
pub mod Roms
pub mod Windows
