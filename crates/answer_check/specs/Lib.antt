-- What the two crates say of answers.
pub use Rattle.answer_text.specs.ReadAnswers
pub use Rattle.answer_text.specs.AnswerTextLaw
pub use Rattle.answer_text.specs.Drafts
pub use Rattle.check_answers.specs.AnswerChecks
pub use Rattle.check_answers.specs.AnswerLaw
