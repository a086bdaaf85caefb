use Rattle.workbench.proofs.KeptClauses.{kept_clauses_law}
use Rattle.workbench.proofs.laws.kept_clauses_law.Goals as goal

pub returns : goal.returns
returns c = kept_clauses_law
