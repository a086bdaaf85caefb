pub use Rattle.answer_text.proofs.AnswerReads
pub use Rattle.check_answers.proofs.AnswerLaws
