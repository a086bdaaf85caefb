use Rattle.std.proofs.Common.{◌≡◌, ◌++◌, take, drop, map}
use Rattle.exact_rows.specs.Merged.{content_of, divided}
use Rattle.exact_rows.proofs.merge.divide.Given as goal

abbrev pub invariant-loop-e : goal.invariant-loop-e
invariant-loop-e l = l.entries ≡ take l.e-index (map (divided (content_of l.initial.entries)) l.initial.entries) ++ drop l.e-index l.initial.entries
