pub mod Demo
pub mod Sizes
