use Rattle.std.proofs.Common.{sym, ◌∙◌}
use Rattle.lk_model.specs.Texts.Lines.{is_blank}
use Rattle.lk_text.proofs.Ranges.{range-more}
use Rattle.lk_text.proofs.cuts.word_begin.Goals as goal

pub loop-i-preserved : goal.loop-i-preserved
loop-i-preserved c = range-more is_blank _ _ _ c.loop-i.auto.i c.loop-i-test.true c.loop-i.invariant (sym c.is_blank.ensures ∙ c.if-not-is_blank.false)
