pub mod ReadAnswers
pub mod AnswerTextLaw
pub mod CoreDrafts
pub mod Drafts
