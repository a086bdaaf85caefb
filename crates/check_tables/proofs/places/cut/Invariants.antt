use Rattle.std.proofs.Common.{◌-◌, ◌≤◌}
use Rattle.check_tables.specs.Places.{AreCut}
use Rattle.check_tables.proofs.places.cut.Given as goal

-- the ranges so far
abbrev pub invariant-loop-done : goal.invariant-loop-done
invariant-loop-done l = record {
  within : l.done ≤ l.n;
  cut : AreCut 1 l.done l.spans.items;
}

abbrev pub decreases-loop-done : goal.decreases-loop-done
decreases-loop-done l = l.n - l.done
