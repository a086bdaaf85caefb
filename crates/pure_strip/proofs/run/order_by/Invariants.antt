use Rattle.std.proofs.Common.{length, List, [], ◌++◌, ℤ}
use Rattle.lk_model.specs.Formulas.PureRun.{RunsOn, untouched}
use Rattle.pure_strip.specs.Live.{AreCounted, AreUntouched}
use Rattle.pure_strip.proofs.run.order_by.Given as goal

-- the order so far goes on as the run does
abbrev pub invariant-loop-l : goal.invariant-loop-l
invariant-loop-l l = record {
  counted : AreCounted l.f l.live.items l.counts;
  untouched : AreUntouched l.f l.order l.live.items;
  run : (later : List ℤ) → RunsOn l.f l.order later → RunsOn l.f [] (l.order ++ later);
}

-- each literal of the run touches a clause more
abbrev pub decreases-loop-l : goal.decreases-loop-l
decreases-loop-l l = length (untouched l.f l.order)
