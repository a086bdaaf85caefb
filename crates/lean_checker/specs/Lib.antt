pub mod Verdicts
pub mod Accepted
pub mod Lines
pub mod Common
pub mod Unfinished
