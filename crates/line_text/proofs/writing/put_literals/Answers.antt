use Rattle.std.proofs.Common.{arith}
use Rattle.std.proofs.lemmas.Grind.{common_steps}
use Rattle.line_text.proofs.writing.put_literals.Goals as goal

pub loop-l-preserved : goal.loop-l-preserved
loop-l-preserved c = grind (arith, common_steps)

pub loop-l-init : goal.loop-l-init
loop-l-init c = grind (arith, common_steps)

pub loop-l-smaller : goal.loop-l-smaller
loop-l-smaller c = grind (arith, common_steps)

pub returns : goal.returns
returns c = grind (arith, common_steps)
