use Rattle.std.proofs.Common.{◌≡◌, ℕ, List, length, map, take}
use Rattle.occurrence_lists.proofs.lists.OccurrenceLists.counts.Given as goal

-- those of the ranks so far
abbrev pub invariant-loop-rank : goal.invariant-loop-rank
invariant-loop-rank l = l.counts.items ≡ map (λ (ps : List ℕ). length ps) (take l.rank l.self)
