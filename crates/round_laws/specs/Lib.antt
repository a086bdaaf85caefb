pub mod Budgets
pub mod RoundLaw
