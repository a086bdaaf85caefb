pub mod Kinds
pub mod Cutting
