use Rattle.lk_model.proofs.Founds.{find-here, find-none_more}
use Rattle.pure_strip.proofs.pairs.first_live.Goals as goal

pub returns-then-live-p : goal.returns-then-live-p
returns-then-live-p c = find-here _ _ _ _ c.loop-p-test.true c.loop-p.invariant c.if-live-p.true

pub loop-p-preserved : goal.loop-p-preserved
loop-p-preserved c = find-none_more _ _ _ 0 c.loop-p-test.true c.loop-p.invariant c.if-live-p.false
