use Rattle.std.proofs.Common.{arith}
use Rattle.std.proofs.lemmas.Grind.{common_steps}
use Rattle.exact_pivot.proofs.ends.signed.Goals as goal

pub returns-then-sign-lt0-clause-value : goal.returns-then-sign-lt0-clause-value
returns-then-sign-lt0-clause-value c = grind (arith, common_steps)

pub returns-else-sign-lt0-clause-value : goal.returns-else-sign-lt0-clause-value
returns-else-sign-lt0-clause-value c = grind (arith, common_steps)
