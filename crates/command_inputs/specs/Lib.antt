pub mod Inputs
pub mod LineTexts
