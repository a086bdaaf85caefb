use Rattle.std.proofs.Common.{◌≡◌, length, map, drop}
use Rattle.lk_model.specs.Lists.{up_to}
use Rattle.exact_pivot.proofs.Costs.{subtracted}
use Rattle.exact_pivot.proofs.start.subtract.Given as goal

-- what the entries that are left are still to subtract
abbrev pub invariant-loop-e : goal.invariant-loop-e
invariant-loop-e l = l.sums ≡ map (subtracted l.initial.sums l.row (drop l.e-index l.entries)) (up_to (length l.initial.sums))
