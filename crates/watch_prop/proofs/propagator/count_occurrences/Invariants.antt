use Rattle.std.proofs.Common.{◌≡◌, length}
use Rattle.watch_prop.proofs.propagator.count_occurrences.Given as goal

abbrev pub invariant-loop-l : goal.invariant-loop-l
invariant-loop-l l = length l.counts ≡ length l.fn.counts
