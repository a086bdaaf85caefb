pub mod Ranges
pub mod Parts
pub mod FirstPositions
pub mod Ranks
pub mod Noted
