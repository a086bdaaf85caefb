use Rattle.std.proofs.Common.{take}
use Rattle.occurrence_lists.specs.Noting.{CountsClause}
use Rattle.occurrence_lists.proofs.counting.count_clause.Given as goal

-- one more at the literals so far
abbrev pub invariant-loop-l : goal.invariant-loop-l
invariant-loop-l l = CountsClause (take l.l-index l.clause) l.fn.counts l.counts
