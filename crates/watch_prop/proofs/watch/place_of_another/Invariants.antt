use Rattle.std.proofs.Common.{◌||◌, ◌<◌, ◌≤◌, ℕ, pos, get_or, IsTrue}
use Rattle.std.specs.Ordering.{int_eq}
use Rattle.watch_prop.specs.Watch.{false_at}
use Rattle.watch_prop.proofs.watch.place_of_another.Given as goal

abbrev pub invariant-loop-at : goal.invariant-loop-at
invariant-loop-at l = (k : ℕ) → l.begin ≤ k → k < l.at → IsTrue (int_eq (get_or l.lits k (pos 0)) l.but || false_at l.trail.entries l.lits k)
