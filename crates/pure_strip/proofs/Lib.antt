pub mod Heaps
pub mod Selections
pub mod ListLemmas
pub mod PairLemmas
pub mod Steps
pub mod Runs
pub mod LoneLemmas
pub mod Starts
