use Rattle.cert_text.proofs.ReadLaws.{if_ends}
use Rattle.cert_text.proofs.reading.DocumentReaderLineReader.finish.Goals as goal

pub returns : goal.returns
returns c = if_ends c.args.self.draft c.args.self.growing c.finish.result c.requires.fits c.requires.few c.finish.ensures
