-- Resolution chains, and rounds of refutations.
pub mod Chain
pub mod Rounds
pub mod Searches
pub mod Budgets
