-- What the chains of rounds show.
pub mod Touching
pub mod Chains
pub mod Numbering
pub mod Stated
pub mod Reaching
pub mod Blocking
pub mod GeneralLaws
pub mod Refuting
-- How many clauses rounds learn.
pub mod Codes
pub mod Passing
pub mod Learning
pub mod Unblocked
pub mod CountLaws
-- Rounds over parts, and joined ones.
pub mod Renumbering
pub mod Carrying
pub mod Wholes
pub mod JoinLaws
pub mod Growing
pub mod PartLaws
pub mod Foreign
pub mod SetUnions
pub mod PartResults
-- What is found.
pub mod GeneralResults
pub mod OpenResults
-- What a refutation uses.
pub mod StepForms
pub mod ReachedSteps
pub mod UsedLaws
-- Minimally unsatisfiable sets.
pub mod Flips
pub mod MinimalLaws
pub mod WitnessLaws
pub mod CoreLaws
