use Rattle.refutation_log.proofs.TrimmedLaws.{trimmed_law}
use Rattle.refutation_log.proofs.laws.trimmed_law.Goals as goal

pub returns : goal.returns
returns c = trimmed_law
