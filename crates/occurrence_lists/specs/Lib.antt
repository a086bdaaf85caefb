pub mod Occurrences
pub mod Parts
pub mod Noting
