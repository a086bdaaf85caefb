pub mod Arriving
pub mod Holding
