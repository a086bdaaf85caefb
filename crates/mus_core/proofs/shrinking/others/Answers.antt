use Rattle.std.proofs.Common.{arith}
use Rattle.std.proofs.lemmas.Grind.{common_steps}
use Rattle.mus_core.proofs.shrinking.others.Goals as goal

pub loop-q-preserved : goal.loop-q-preserved
loop-q-preserved c = grind (arith, common_steps)

pub returns : goal.returns
returns c = grind (arith, common_steps)
