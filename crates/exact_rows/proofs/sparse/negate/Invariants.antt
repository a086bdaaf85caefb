use Rattle.std.proofs.Common.{◌≡◌, ◌++◌, take, drop, map}
use Rattle.exact_rows.specs.Sparse.{negated}
use Rattle.exact_rows.proofs.sparse.negate.Given as goal

abbrev pub invariant-loop-e : goal.invariant-loop-e
invariant-loop-e l = l.entries ≡ take l.e-index (map negated l.initial.entries) ++ drop l.e-index l.initial.entries
