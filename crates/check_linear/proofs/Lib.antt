pub mod DualChecks
pub mod Numbers
pub mod StageChecks
pub mod StageBalances
pub mod UnitPlaces
pub mod UnitChecks
pub mod Clearing
pub mod SummedOnce
