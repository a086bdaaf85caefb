use Rattle.std.proofs.Common.{arith}
use Rattle.std.proofs.lemmas.Grind.{common_steps}
use Rattle.answer_text.proofs.core_printing.put_withouts.Goals as goal

pub loop-without-preserved : goal.loop-without-preserved
loop-without-preserved c = grind (arith, common_steps)

pub loop-without-init : goal.loop-without-init
loop-without-init c = grind (arith, common_steps)

pub loop-without-smaller : goal.loop-without-smaller
loop-without-smaller c = grind (arith, common_steps)

pub returns : goal.returns
returns c = grind (arith, common_steps)
