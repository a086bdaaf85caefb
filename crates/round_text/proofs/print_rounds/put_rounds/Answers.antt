use Rattle.std.proofs.Common.{arith}
use Rattle.std.proofs.lemmas.Grind.{common_steps}
use Rattle.round_text.proofs.print_rounds.put_rounds.Goals as goal

pub loop-round-preserved : goal.loop-round-preserved
loop-round-preserved c = grind (arith, common_steps)

pub loop-round-init : goal.loop-round-init
loop-round-init c = grind (arith, common_steps)

pub loop-round-smaller : goal.loop-round-smaller
loop-round-smaller c = grind (arith, common_steps)

pub returns : goal.returns
returns c = grind (arith, common_steps)
