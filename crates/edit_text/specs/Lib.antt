-- Clauses that come and go, edits of them, and the texts of edits.
pub mod LiveClauses
pub mod Edits
pub mod EditText
pub mod EditsLaw
-- How a reader holds what it read.
pub mod Fed
pub mod Words
