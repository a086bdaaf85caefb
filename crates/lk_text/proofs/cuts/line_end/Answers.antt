use Rattle.std.proofs.Common.{not}
use Rattle.lk_model.specs.Texts.Lines.{is_newline}
use Rattle.lk_text.proofs.Ranges.{range-more, not_eq}
use Rattle.lk_text.proofs.cuts.line_end.Goals as goal

pub loop-i-preserved : goal.loop-i-preserved
loop-i-preserved c = range-more (λ b. not (is_newline b)) _ _ _ c.loop-i.auto.i c.loop-i-test.true c.loop-i.invariant (not_eq _ 10 c.if-bytes-i-eq10.false)
