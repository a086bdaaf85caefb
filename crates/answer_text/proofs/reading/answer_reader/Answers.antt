use Rattle.answer_text.proofs.AnswerReads.{begins, can_begin, reads_answers}
use Rattle.answer_text.proofs.reading.answer_reader.Goals as goal

pub returns-clause-fits : goal.returns-clause-fits
returns-clause-fits c = begins c.args.n c.args.m c.requires.vars c.requires.clauses

pub returns-clause-completed : goal.returns-clause-completed
returns-clause-completed c = can_begin c.args.n c.args.m c.requires.vars c.requires.clauses

pub returns-clause-answers : goal.returns-clause-answers
returns-clause-answers c = reads_answers c.args.n c.args.m c.requires.vars c.requires.clauses
