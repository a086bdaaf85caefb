use Rattle.std.proofs.Common.{arith}
use Rattle.std.proofs.lemmas.Grind.{common_steps}
use Rattle.cert_text.proofs.printing.linear.put_stages.Goals as goal

pub loop-stage-preserved : goal.loop-stage-preserved
loop-stage-preserved c = grind (arith, common_steps)

pub loop-stage-init : goal.loop-stage-init
loop-stage-init c = grind (arith, common_steps)

pub loop-stage-smaller : goal.loop-stage-smaller
loop-stage-smaller c = grind (arith, common_steps)

pub returns : goal.returns
returns c = grind (arith, common_steps)
