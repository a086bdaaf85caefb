use Rattle.std.proofs.Common.{◌∙◌, sym}
use Rattle.refutation_log.proofs.Steps.{last_refutes}
use Rattle.refutation_log.proofs.replaying.is_refutation.Goals as goal

pub returns-then-len-gt0-clause-value : goal.returns-then-len-gt0-clause-value
returns-then-len-gt0-clause-value c = c.is_empty.ensures ∙ sym (last_refutes c.args.log.now.steps c.last_clause.result.now c.last_clause.ensures.value)
