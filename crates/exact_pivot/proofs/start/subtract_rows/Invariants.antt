use Rattle.std.proofs.Common.{◌≡◌, length, map, take}
use Rattle.lk_model.specs.Lists.{up_to}
use Rattle.lk_model.specs.Linear.Rows.{less_column}
use Rattle.exact_pivot.proofs.start.subtract_rows.Given as goal

-- the rows so far
abbrev pub invariant-loop-row : goal.invariant-loop-row
invariant-loop-row l = l.sums ≡ map (less_column (take l.row-index l.rows)) (up_to (length l.initial.sums))
