pub mod Positions
pub mod Numbering
pub mod Groups
