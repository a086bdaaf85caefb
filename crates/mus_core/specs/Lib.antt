pub mod Found
pub mod Flags
pub mod WitnessValues
pub mod Rotations
pub mod Shrinking
pub mod ByParts
