use Rattle.refutation_log.proofs.ChainNames.{pushed_law}
use Rattle.refutation_log.proofs.laws.pushed_law.Goals as goal

pub returns : goal.returns
returns c = pushed_law
