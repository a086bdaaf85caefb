use Rattle.std.proofs.Common.{◌≡◌, take, length}
use Rattle.std.specs.Prelude.{sum_by}
use Rattle.elimination.proofs.literals.literals_in.Given as goal

-- the literals of the clauses so far
abbrev pub invariant-loop-k : goal.invariant-loop-k
invariant-loop-k l = l.literals ≡ sum_by length (take l.k l.f.clauses)
