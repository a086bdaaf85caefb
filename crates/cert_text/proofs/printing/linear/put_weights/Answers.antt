use Rattle.std.proofs.Common.{arith, refl}
use Rattle.std.proofs.lemmas.Grind.{common_steps}
use Rattle.cert_text.specs.Printed.{weight_words}
use Rattle.cert_text.proofs.PrintedTexts.{all_written}
use Rattle.cert_text.proofs.printing.linear.put_weights.Goals as goal

pub loop-weight-init : goal.loop-weight-init
loop-weight-init c = refl

pub loop-weight-smaller : goal.loop-weight-smaller
loop-weight-smaller c = grind (arith, common_steps)

pub loop-weight-preserved : goal.loop-weight-preserved
loop-weight-preserved c = grind (arith, common_steps)

pub returns : goal.returns
returns c = all_written weight_words c.args.weights.now c.loop-weight.weight-index c.loop-weight.out.items _ refl c.loop-weight-test.false c.loop-weight.invariant
