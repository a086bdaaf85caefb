use Rattle.std.proofs.Common.{arith}
use Rattle.std.proofs.lemmas.Grind.{common_steps}
use Rattle.cert_text.proofs.printing.linear.put_units.Goals as goal

pub loop-unit-preserved : goal.loop-unit-preserved
loop-unit-preserved c = grind (arith, common_steps)

pub loop-unit-init : goal.loop-unit-init
loop-unit-init c = grind (arith, common_steps)

pub loop-unit-smaller : goal.loop-unit-smaller
loop-unit-smaller c = grind (arith, common_steps)

pub returns : goal.returns
returns c = grind (arith, common_steps)
