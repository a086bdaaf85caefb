use Rattle.std.proofs.Common.{◌≡◌, ◌++◌, map, take}
use Rattle.exact_pivot.specs.Scattered.{times_sign}
use Rattle.exact_pivot.proofs.start.push_times.Given as goal

abbrev pub invariant-loop-e : goal.invariant-loop-e
invariant-loop-e l = l.row.items ≡ l.initial.row.items ++ map (times_sign l.sign) (take l.e-index l.entries)
