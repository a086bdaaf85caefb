use Rattle.std.proofs.Common.{◌≡◌, take, None, not}
use Rattle.std.specs.Prelude.{find}
use Rattle.lk_model.specs.Formulas.Formula.{clause_at}
use Rattle.lk_model.specs.Formulas.Assignment.{satisfies}
use Rattle.lk_model.specs.Held.PartialValues.{assignment_by}
use Rattle.lean_checker.proofs.extend.model_fails.Given as goal

-- the clause at each of the positions so far is satisfied
abbrev pub invariant-loop-p : goal.invariant-loop-p
invariant-loop-p l = find (λ p. not (satisfies (assignment_by l.psi) (clause_at l.f p))) (take l.p-index l.d.kept) ≡ None
