pub mod Lawful
pub mod Shapes
pub mod Settings
pub mod OptionPlaces
pub mod OptionRows
pub mod Requests
