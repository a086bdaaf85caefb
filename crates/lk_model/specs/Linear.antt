-- The linear run: the simplex method in whole numbers.
pub mod Arithmetic
pub mod Rows
pub mod Pivot
pub mod Phases
pub mod Ends
pub mod LinearRun
