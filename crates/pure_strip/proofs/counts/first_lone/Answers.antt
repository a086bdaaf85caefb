use Rattle.std.proofs.Common.{sym, ◌∙◌}
use Rattle.pure_strip.proofs.Heaps.{left_less}
use Rattle.pure_strip.proofs.LoneLemmas.{Still-less}
use Rattle.pure_strip.proofs.counts.first_lone.Goals as goal

pub lone_literal-requires-clause-first : goal.lone_literal-requires-clause-first
lone_literal-requires-clause-first c = (c.requires.within c.in-Some.v (c.loop-v.invariant.among c.in-Some.v c.in-Some.ensures.some.0)).0

pub lone_literal-requires-clause-last : goal.lone_literal-requires-clause-last
lone_literal-requires-clause-last c = (c.requires.within c.in-Some.v (c.loop-v.invariant.among c.in-Some.v c.in-Some.ensures.some.0)).1

pub lone_literal-requires-clause-within : goal.lone_literal-requires-clause-within
lone_literal-requires-clause-within c = (c.requires.within c.in-Some.v (c.loop-v.invariant.among c.in-Some.v c.in-Some.ensures.some.0)).2

pub loop-v-smaller : goal.loop-v-smaller
loop-v-smaller c = left_less _ _ c.in-Some.v (c.drop_least.ensures c.in-Some.v c.in-Some.ensures.some)

pub loop-v-preserved : goal.loop-v-preserved
loop-v-preserved c = Still-less _ _ _ _ c.in-Some.v c.loop-v.invariant (sym c.lone_literal.ensures ∙ c.in-None.is) (c.drop_least.ensures c.in-Some.v c.in-Some.ensures.some)
