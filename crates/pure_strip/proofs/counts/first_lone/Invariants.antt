use Rattle.std.proofs.Common.{length}
use Rattle.pure_strip.specs.Counted.{AreStill}
use Rattle.pure_strip.proofs.counts.first_lone.Given as goal

-- what was dropped does not occur in one sign only
abbrev pub invariant-loop-v : goal.invariant-loop-v
invariant-loop-v l = AreStill l.counts l.initial.back l.back

abbrev pub decreases-loop-v : goal.decreases-loop-v
decreases-loop-v l = length l.back
