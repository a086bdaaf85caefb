use Rattle.std.proofs.Common.{◌≡◌, ◌++◌, map, take, drop, length}
use Rattle.std.specs.List.{flat_map}
use Rattle.lk_model.specs.Lists.{up_to}
use Rattle.lk_model.specs.Linear.Arithmetic.{first_wide}
use Rattle.exact_rows.specs.Made.{AreInRange}
use Rattle.exact_pivot.specs.Staged.{difference_at, made_in_difference, signed_number}
use Rattle.exact_pivot.proofs.stages.write_differences.Given as goal

abbrev pub invariant-loop-j : goal.invariant-loop-j
invariant-loop-j l = record {
  value : l.numbers ≡ take l.j (map (signed_number l.signs (difference_at l.clause_count (length l.signs) l.cost)) (up_to (length l.signs))) ++ drop l.j l.initial.numbers;
  wide : first_wide (flat_map (made_in_difference l.clause_count (length l.signs) l.cost) (up_to (length l.signs)))
      ≡ first_wide (flat_map (made_in_difference l.clause_count (length l.signs) l.cost) (drop l.j (up_to (length l.signs))));
  range : AreInRange l.numbers;
}
