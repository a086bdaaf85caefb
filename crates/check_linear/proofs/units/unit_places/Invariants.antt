use Rattle.std.proofs.Common.{drop, length}
use Rattle.lk_model.specs.Lists.{up_to}
use Rattle.check_linear.specs.Linear.{HasUnitPlaces}
use Rattle.check_linear.proofs.units.unit_places.Given as goal

-- the numbers of the units so far, which stand last
abbrev pub invariant-loop-i : goal.invariant-loop-i
invariant-loop-i l = HasUnitPlaces l.n l.units (drop l.i (up_to (length l.units))) l.table.items
