-- Matchings of a part and alternating walks.
pub mod Matchings
pub mod Walks
-- One more pair, and what shows that no matching has more.
pub mod Ways
pub mod Covers
pub mod Counts
-- Matchings of which no table by clauses is held.
pub mod Behind
-- How the searches hold a matching, what a search finds, and the walks whose pairs are exchanged.
pub mod Pairing
pub mod Found
pub mod Augmented
-- How the search for one path visits clauses.
pub mod Visiting
