use Rattle.std.proofs.Common.{◌≡◌}
use Rattle.lk_model.specs.Held.PartialValues.{assignment_by}
use Rattle.lk_model.specs.Formulas.Assignment.{extended_literals}
use Rattle.partial_assign.proofs.extension.extend_total.Given as goal

-- the literals of the variables so far
abbrev pub invariant-loop-v : goal.invariant-loop-v
invariant-loop-v l = l.literals.items ≡ extended_literals (assignment_by l.phi) (assignment_by l.psi) l.v
