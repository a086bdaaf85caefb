use Rattle.std.proofs.Common.{◌<◌, ℕ, IsTrue}
use Rattle.watch_prop.specs.Watch.{false_at}
use Rattle.watch_prop.proofs.watch.first_not_false.Given as goal

abbrev pub invariant-loop-at : goal.invariant-loop-at
invariant-loop-at l = (k : ℕ) → k < l.at → IsTrue (false_at l.trail.entries l.lits k)
