pub mod Founds
pub mod Made
