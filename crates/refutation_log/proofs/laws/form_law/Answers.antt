use Rattle.refutation_log.proofs.InFormLaws.{form_law}
use Rattle.refutation_log.proofs.laws.form_law.Goals as goal

pub returns : goal.returns
returns c = form_law
