use Rattle.std.proofs.Common.{sym, ◌∙◌, ap, not}
use Rattle.lk_model.specs.Texts.Lines.{is_blank}
use Rattle.lk_text.proofs.Ranges.{range-more}
use Rattle.lk_text.proofs.cuts.word_end.Goals as goal

pub loop-i-preserved : goal.loop-i-preserved
loop-i-preserved c = range-more (λ b. not (is_blank b)) _ _ _ c.loop-i.auto.i c.loop-i-test.true c.loop-i.invariant (ap not (sym c.is_blank.ensures ∙ c.if-is_blank.false))
