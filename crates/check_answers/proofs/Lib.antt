pub mod CoreClauses
pub mod CoreWitnesses
pub mod CoreFailures
pub mod CoreShown
pub mod CheckedAnswers
pub mod CoreAnswers
pub mod AnswerLaws
