use Rattle.answer_text.proofs.AnswerReads.{ends_with}
use Rattle.answer_text.proofs.reading.AnswerReaderLineReader.finish.Goals as goal

pub returns : goal.returns
returns c = ends_with c.args.self.vars c.args.self.clauses c.args.self.draft c.finish.result c.requires.fits c.requires.few c.finish.ensures
