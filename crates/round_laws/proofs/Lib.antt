-- Joined rounds.
pub mod Trimmed
pub mod Progressing
pub mod Pieces
-- Rounds under protected variables.
pub mod Outside
-- All of it.
pub mod RoundLaws
