use Rattle.std.proofs.Common.{◌≡◌, length}
use Rattle.elimination.proofs.extending.all_false.Given as goal

abbrev pub invariant-loop-v : goal.invariant-loop-v
invariant-loop-v l = length l.values ≡ l.clauses.vars
