use Rattle.std.proofs.Common.{◌≡◌, ◌++◌, map, take, drop}
use Rattle.std.specs.List.{flat_map}
use Rattle.lk_model.specs.Linear.Arithmetic.{first_wide}
use Rattle.exact_pivot.specs.Placed.{sum_with, made_in_sum}
use Rattle.exact_pivot.proofs.ends.write_sums.Given as goal

abbrev pub invariant-loop-i : goal.invariant-loop-i
invariant-loop-i l = record {
  value : l.values ≡ take l.i (map (sum_with l.common l.column) l.rows) ++ drop l.i l.initial.values;
  wide : first_wide (flat_map (made_in_sum l.common l.column) l.rows) ≡ first_wide (flat_map (made_in_sum l.common l.column) (drop l.i l.rows));
}
