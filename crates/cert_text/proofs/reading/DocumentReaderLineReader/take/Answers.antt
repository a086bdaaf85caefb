use Rattle.cert_text.proofs.ReadLaws.{small_draft, if_takes, if_reads_on}
use Rattle.cert_text.proofs.reading.DocumentReaderLineReader.take.Goals as goal

pub take_line-requires-clause-small : goal.take_line-requires-clause-small
take_line-requires-clause-small c = small_draft c.args.self.now.draft c.args.self.now.growing c.requires.fits

pub returns-clause-taken : goal.returns-clause-taken
returns-clause-taken c = if_takes c.args.self.now.draft c.take_line.new.draft c.args.self.now.growing c.args.line.now c.take_line.result c.requires.fits c.requires.few c.take_line.ensures.taken

pub returns-clause-fits : goal.returns-clause-fits
returns-clause-fits c =
    (if_reads_on c.args.self.now.draft c.take_line.new.draft c.args.self.now.growing c.take_line.new.growing c.args.line.now c.take_line.result c.requires.fits c.take_line.ensures.taken c.take_line.ensures.ready).0

pub returns-clause-count : goal.returns-clause-count
returns-clause-count c =
    (if_reads_on c.args.self.now.draft c.take_line.new.draft c.args.self.now.growing c.take_line.new.growing c.args.line.now c.take_line.result c.requires.fits c.take_line.ensures.taken c.take_line.ensures.ready).1
