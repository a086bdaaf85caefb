use Rattle.std.proofs.Common.{◌≡◌, ◌+◌, ◌*◌, length}
use Rattle.watch_prop.proofs.propagator.occurrences.Given as goal

abbrev pub invariant-loop-p : goal.invariant-loop-p
invariant-loop-p l = length l.counts ≡ 2 * l.over.formula.now.vars + 2
