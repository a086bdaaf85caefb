use Rattle.answer_text.proofs.AnswerReads.{if_takes, if_reads_on}
use Rattle.answer_text.proofs.reading.AnswerReaderLineReader.take.Goals as goal

pub take_line-requires : goal.take_line-requires
take_line-requires c = c.requires.fits

pub returns-clause-taken : goal.returns-clause-taken
returns-clause-taken c =
    if_takes c.args.self.now.vars c.args.self.now.clauses c.args.self.now.draft c.take_line.new.draft c.args.line.now c.take_line.result c.requires.fits c.requires.few c.take_line.ensures

pub returns-clause-fits : goal.returns-clause-fits
returns-clause-fits c =
    (if_reads_on c.args.self.now.vars c.args.self.now.clauses c.args.self.now.draft c.take_line.new.draft c.args.line.now c.take_line.result c.requires.fits c.take_line.ensures).0

pub returns-clause-count : goal.returns-clause-count
returns-clause-count c =
    (if_reads_on c.args.self.now.vars c.args.self.now.clauses c.args.self.now.draft c.take_line.new.draft c.args.line.now c.take_line.result c.requires.fits c.take_line.ensures).1
