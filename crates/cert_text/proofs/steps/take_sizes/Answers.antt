use Rattle.std.proofs.Common.{arith}
use Rattle.std.proofs.lemmas.Grind.{common_steps}
use Rattle.cert_text.proofs.steps.take_sizes.Goals as goal

pub unreachable-unreachable : goal.unreachable-unreachable
unreachable-unreachable c = grind (arith, common_steps)

pub returns-clause-taken : goal.returns-clause-taken
returns-clause-taken c = grind (arith, common_steps)
