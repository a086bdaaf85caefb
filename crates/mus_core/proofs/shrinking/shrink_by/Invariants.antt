use Rattle.mus_core.specs.Shrinking.{IsShrunk, left_open}
use Rattle.mus_core.proofs.shrinking.shrink_by.Given as goal

-- the set has a refutation, and its witnesses are right
abbrev pub invariant-clauses : goal.invariant-clauses
invariant-clauses l = IsShrunk l.core l.conflicts l.refutation l.witnesses

-- each clause that is left out leaves fewer places without a witness
abbrev pub decreases-clauses : goal.decreases-clauses
decreases-clauses l = left_open l.core.clauses l.refutation.used l.witnesses
