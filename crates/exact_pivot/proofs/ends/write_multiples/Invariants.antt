use Rattle.std.proofs.Common.{◌≡◌, ◌++◌, map, take, drop}
use Rattle.std.specs.List.{flat_map}
use Rattle.lk_model.specs.Linear.Arithmetic.{first_wide}
use Rattle.exact_pivot.specs.Placed.{signed_of, made_in_multiple}
use Rattle.exact_pivot.proofs.ends.write_multiples.Given as goal

abbrev pub invariant-loop-i : goal.invariant-loop-i
invariant-loop-i l = record {
  value : l.values ≡ take l.i (map (signed_of l.sign l.common l.column) l.rows) ++ drop l.i l.initial.values;
  wide : first_wide (flat_map (made_in_multiple l.common l.column) l.rows) ≡ first_wide (flat_map (made_in_multiple l.common l.column) (drop l.i l.rows));
}
