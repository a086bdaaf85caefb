pub mod PrintedSteps
pub mod RoundSteps
pub mod RoundForms
pub mod RoundParts
pub mod RoundEnds
pub mod RoundRuns
pub mod CleanRounds
