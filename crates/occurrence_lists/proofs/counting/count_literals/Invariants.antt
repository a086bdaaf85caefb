use Rattle.occurrence_lists.specs.Noting.{AreCounts}
use Rattle.occurrence_lists.proofs.counting.count_literals.Given as goal

-- the numbers of the clauses so far
abbrev pub invariant-loop-i : goal.invariant-loop-i
invariant-loop-i l = AreCounts l.f l.i l.counts
