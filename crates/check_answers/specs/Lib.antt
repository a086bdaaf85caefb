pub mod AnswerChecks
pub mod AnswerLaw
