pub mod MatchingLaws
pub mod SetLines
pub mod MatchingResults
pub mod MatchingReductions
