use Rattle.pure_strip.proofs.Steps.{next_literal, Lowers-next}
use Rattle.pure_strip.proofs.run.lower_all.Goals as goal

pub lower-requires-clause-literal : goal.lower-requires-clause-literal
lower-requires-clause-literal c = (next_literal _ _ _ _ _ c.requires.clause c.requires.held c.loop-l-test.true c.l-item.is c.loop-l.invariant).now_literal

pub lower-requires-clause-held : goal.lower-requires-clause-held
lower-requires-clause-held c = (next_literal _ _ _ _ _ c.requires.clause c.requires.held c.loop-l-test.true c.l-item.is c.loop-l.invariant).now_held

pub loop-l-preserved : goal.loop-l-preserved
loop-l-preserved c = Lowers-next _ _ _ _ _ _ c.requires.width c.requires.clause c.requires.held c.loop-l-test.true c.l-item.is c.loop-l.invariant c.in_ok-lower.ensures.ok
