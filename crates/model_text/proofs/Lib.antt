pub mod Numbers
pub mod Values
pub mod Steps
pub mod Lines
pub mod LineSteps
pub mod Texts
pub mod Standing
