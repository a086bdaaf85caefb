use Rattle.std.proofs.Common.{◌≤◌, ◌-◌, length}
use Rattle.watch_prop.proofs.places.bisected.Given as goal

abbrev pub invariant-halves : goal.invariant-halves
invariant-halves l = (l.low ≤ l.high) × (l.high ≤ length l.clauses)

abbrev pub decreases-halves : goal.decreases-halves
decreases-halves l = l.high - l.low
