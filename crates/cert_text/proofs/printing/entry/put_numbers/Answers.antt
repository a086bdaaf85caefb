use Rattle.std.proofs.Common.{refl}
use Rattle.lk_model.specs.Texts.PlainText.{number_words}
use Rattle.cert_text.proofs.PrintedTexts.{next_number, all_written}
use Rattle.cert_text.proofs.printing.entry.put_numbers.Goals as goal

pub loop-n-init : goal.loop-n-init
loop-n-init c = refl

pub loop-n-preserved : goal.loop-n-preserved
loop-n-preserved c =
    next_number c.args.numbers.now c.loop-n.n-index c.loop-n.out.items c.put_number.new.out.items _ c.loop-n-test.true c.loop-n.invariant (rw c.from.ensures at c.in_ok-put_number.ensures)

pub returns : goal.returns
returns c = all_written number_words c.args.numbers.now c.loop-n.n-index c.loop-n.out.items _ refl c.loop-n-test.false c.loop-n.invariant
