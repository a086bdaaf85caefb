use Rattle.std.proofs.Common.{◌≡◌, take, length}
use Rattle.lk_model.specs.Held.PartialValues.{assignment_by}
use Rattle.lk_model.specs.Formulas.Assignment.{assignment_of}
use Rattle.partial_assign.proofs.literals.assignment_of.Given as goal

-- the assignment of the literals so far
abbrev pub invariant-loop-l : goal.invariant-loop-l
invariant-loop-l l = record {
  vars : length l.values ≡ l.n;
  values : assignment_by l.values ≡ assignment_of (take l.l-index l.literals);
}
