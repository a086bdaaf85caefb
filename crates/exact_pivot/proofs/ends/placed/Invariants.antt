use Rattle.std.proofs.Common.{◌≡◌, drop}
use Rattle.exact_pivot.specs.Placed.{placed}
use Rattle.exact_pivot.proofs.ends.placed.Given as goal

-- what the last rows place
abbrev pub invariant-loop-i : goal.invariant-loop-i
invariant-loop-i l = l.numbers.items ≡ placed l.elsewhere l.clause_count (drop l.i l.rows) (drop l.i l.values)
