pub mod Counts
pub mod ClauseWords
pub mod LineSteps
pub mod TextLines
pub mod EditTexts
pub mod Standing
