pub mod AgainLaws
pub mod BusLaws
pub mod PlacesLaws
pub mod SoundLaws
pub mod WriteLaws
