use Rattle.std.proofs.Common.{take}
use Rattle.pure_strip.specs.Counted.{LowersAll}
use Rattle.pure_strip.proofs.run.lower_all.Given as goal

-- one less at each literal so far
abbrev pub invariant-loop-l : goal.invariant-loop-l
invariant-loop-l l = LowersAll (take l.l-index l.clause) l.fn.counts l.counts
