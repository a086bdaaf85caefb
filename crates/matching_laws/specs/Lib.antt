pub mod MatchingLaw
pub mod MatchingResults
