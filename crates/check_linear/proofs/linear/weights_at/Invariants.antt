use Rattle.std.proofs.Common.{◌≡◌, ◌++◌, drop}
use Rattle.check_linear.specs.Linear.{weights_at}
use Rattle.check_linear.proofs.linear.weights_at.Given as goal

-- the weights so far, and those of the literals that are left
abbrev pub invariant-loop-l : goal.invariant-loop-l
invariant-loop-l l = l.numbers.items ++ weights_at l.stage l.firsts.places.items l.firsts.weights.items (drop l.l-index l.clause) ≡ weights_at l.stage l.firsts.places.items l.firsts.weights.items l.clause
