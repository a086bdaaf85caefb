use Rattle.std.proofs.Common.{◌≡◌, length, take, drop}
use Rattle.std.specs.List.{flat_map}
use Rattle.lk_model.specs.Lists.{up_to}
use Rattle.lk_model.specs.Linear.Arithmetic.{first_wide}
use Rattle.exact_pivot.specs.Placed.{units_in, made_in_unit_at, made_in_all}
use Rattle.exact_pivot.proofs.ends.units.Given as goal

abbrev pub invariant-loop-j : goal.invariant-loop-j
invariant-loop-j l = record {
  value : l.units.items ≡ take l.j (units_in l.positions l.vars l.signs l.rows);
  wide : first_wide (made_in_all (length l.positions) (length l.vars) l.rows) ≡ first_wide (flat_map (made_in_unit_at (length l.positions) l.rows) (drop l.j (up_to (length l.vars))));
}
