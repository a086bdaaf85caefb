pub mod Paths
pub mod Truths
mod Lists
pub mod Trails
pub mod Along
pub mod Units
pub mod Levels
mod Upheld
mod States
mod Settling
mod Counts
mod Values
mod Flat
mod Blocking
mod Linking
mod Listing
mod Demands
mod Answering
mod Looking
mod Roomy
mod Passing
mod Quiet
pub mod Beginnings
mod Assigning
mod Retracting
mod Holding
