use Rattle.std.proofs.Common.{◌≡◌, ◌++◌}
use Rattle.matching_kernel.specs.Lines.{match_rows}
use Rattle.matching_kernel.proofs.Chosen.{rows_from}
use Rattle.matching_kernel.proofs.kernel.rows.Given as goal

-- the rows so far, and those that are still to come
abbrev pub invariant-loop-v : goal.invariant-loop-v
invariant-loop-v l = l.rows.items ++ rows_from l.v l.end l.of_var l.escape l.rank ≡ match_rows l.end l.of_var l.escape l.rank
