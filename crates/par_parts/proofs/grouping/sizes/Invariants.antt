use Rattle.std.proofs.Common.{◌≡◌, ◌+◌, length}
use Rattle.par_parts.proofs.grouping.sizes.Given as goal

abbrev pub invariant-loop-p : goal.invariant-loop-p
invariant-loop-p l = length l.sizes.items ≡ l.count + 1
