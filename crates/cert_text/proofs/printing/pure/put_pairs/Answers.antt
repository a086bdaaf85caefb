use Rattle.std.proofs.Common.{arith}
use Rattle.std.proofs.lemmas.Grind.{common_steps}
use Rattle.cert_text.proofs.printing.pure.put_pairs.Goals as goal

pub loop-pair-preserved : goal.loop-pair-preserved
loop-pair-preserved c = grind (arith, common_steps)

pub loop-pair-init : goal.loop-pair-init
loop-pair-init c = grind (arith, common_steps)

pub loop-pair-smaller : goal.loop-pair-smaller
loop-pair-smaller c = grind (arith, common_steps)

pub returns : goal.returns
returns c = grind (arith, common_steps)
