mod Extensions
pub mod SetValues
