use Rattle.std.proofs.Common.{arith, refl}
use Rattle.std.proofs.lemmas.Grind.{common_steps}
use Rattle.cert_text.specs.Printed.{share_words}
use Rattle.cert_text.proofs.PrintedTexts.{all_written}
use Rattle.cert_text.proofs.printing.linear.put_shares.Goals as goal

pub loop-share-preserved : goal.loop-share-preserved
loop-share-preserved c = grind (arith, common_steps)

pub loop-share-init : goal.loop-share-init
loop-share-init c = refl

pub loop-share-smaller : goal.loop-share-smaller
loop-share-smaller c = grind (arith, common_steps)

pub returns : goal.returns
returns c = all_written share_words c.args.shares.now c.loop-share.share-index c.loop-share.out.items _ refl c.loop-share-test.false c.loop-share.invariant
