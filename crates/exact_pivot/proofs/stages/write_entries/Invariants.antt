use Rattle.std.proofs.Common.{◌≡◌, ◌++◌, map, take, drop, length}
use Rattle.lk_model.specs.Lists.{up_to}
use Rattle.exact_rows.specs.Made.{AreInRange}
use Rattle.exact_pivot.specs.Staged.{number_in_row, signed_number}
use Rattle.exact_pivot.proofs.stages.write_entries.Given as goal

abbrev pub invariant-loop-j : goal.invariant-loop-j
invariant-loop-j l = record {
  value : l.numbers ≡ take l.j (map (signed_number l.signs (number_in_row l.clause_count l.rows l.row)) (up_to (length l.signs))) ++ drop l.j l.initial.numbers;
  range : AreInRange l.numbers;
}
