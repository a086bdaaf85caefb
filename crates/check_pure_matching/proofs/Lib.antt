pub mod OrderPlaces
pub mod OrderBreaks
pub mod OrderChecks
pub mod KeptClauses
pub mod PairTables
pub mod MatchingChecks
