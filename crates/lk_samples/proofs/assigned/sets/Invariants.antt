use Rattle.std.proofs.Common.{◌≡◌, length}
use Rattle.lk_samples.proofs.assigned.sets.Given as goal

abbrev pub invariant-loop-l : goal.invariant-loop-l
invariant-loop-l l = length l.assignment ≡ l.n
