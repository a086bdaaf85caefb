pub mod Budgets
pub mod DecidedClauses
pub mod Tested
