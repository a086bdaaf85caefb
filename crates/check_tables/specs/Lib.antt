pub mod Flags
pub mod LiteralSets
pub mod Occurring
pub mod Places
