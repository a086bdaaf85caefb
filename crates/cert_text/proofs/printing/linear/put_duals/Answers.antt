use Rattle.std.proofs.Common.{arith}
use Rattle.std.proofs.lemmas.Grind.{common_steps}
use Rattle.cert_text.proofs.printing.linear.put_duals.Goals as goal

pub loop-dual-preserved : goal.loop-dual-preserved
loop-dual-preserved c = grind (arith, common_steps)

pub loop-dual-init : goal.loop-dual-init
loop-dual-init c = grind (arith, common_steps)

pub loop-dual-smaller : goal.loop-dual-smaller
loop-dual-smaller c = grind (arith, common_steps)

pub returns : goal.returns
returns c = grind (arith, common_steps)
