use Rattle.std.proofs.Common.{◌≡◌, length}
use Rattle.elimination.proofs.extending.extended.Given as goal

abbrev pub invariant-loop-k : goal.invariant-loop-k
invariant-loop-k l = length l.values ≡ l.clauses.vars
