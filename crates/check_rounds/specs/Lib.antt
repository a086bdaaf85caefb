pub mod Blocking
pub mod Chains
pub mod Index
pub mod Learned
pub mod Repeats
pub mod Steps
