pub mod Counted
pub mod Live
