use Rattle.std.proofs.Common.{◌≡◌}
use Rattle.lk_model.specs.Lists.{up_to}
use Rattle.lk_model.proofs.formula.Formula.positions.Given as goal

abbrev pub invariant-loop-k : goal.invariant-loop-k
invariant-loop-k l = l.positions ≡ up_to l.k
