pub mod RefutationLaws
pub mod ModelLaws
pub mod EmptyClauses
pub mod Gathering
pub mod OpenRounds
pub mod SolveResults
