pub mod Flagging
pub mod Telling
pub mod Rotated
pub mod ShrunkCores
pub mod ToldCores
pub mod Answered
pub mod Beginning
pub mod PartModels
