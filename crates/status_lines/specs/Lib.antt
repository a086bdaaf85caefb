pub mod Statuses
pub mod StopLines
pub mod RunLines
pub mod LinearStops
pub mod Verdicts
