-- Rounds, what they show and how many clauses they learn, and rounds over parts.
pub mod GeneralLaw
pub mod RefutationLaw
pub mod UsedLaw
pub mod CountLaw
pub mod GrowLaw
pub mod JoinLaw
pub mod PartLaw
pub mod ForeignLaw
pub mod GeneralResults
pub mod OpenResults
pub mod Found
-- Minimally unsatisfiable sets.
pub mod MinimalLaw
pub mod CoreLaw
