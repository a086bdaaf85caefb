pub mod Weightings
pub mod Moments
pub mod Leads
pub mod Ends
