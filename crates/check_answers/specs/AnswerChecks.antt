-- The checks of an answer against a formula.
use Rattle.std.specs.Prelude.{not, List, [], ◌∷◌, ℤ, Option}
use Rattle.lk_model.specs.Formulas.Formula.{Cnf, positions_of, clause_at}
use Rattle.lk_model.specs.Formulas.Crossed.{no_variable}
use Rattle.lk_model.specs.Formulas.Assignment.{assignment_of, satisfies}
use Rattle.lk_model.specs.Checks.Check.{Check, fails, first_of}
use Rattle.lk_model.specs.Checks.RoundChecks.{bad_step}
use Rattle.lk_model.specs.Checks.CoreChecks.{checks_of_core}
use Rattle.lk_model.specs.declared.verdict.Kind.TheVariants.{ModelFails}
use Rattle.lk_model.specs.declared.verdict.Why.{Why}
use Rattle.lk_model.specs.declared.answer.Answer.{Answer}
use Rattle.lk_model.specs.declared.answer.Answer.TheVariants.{Model, Refuted, Core}

-- the literals don't satisfy the clause at a position
unfoldable pub model_fails : Cnf → List ℤ → Check
model_fails F lits = fails ModelFails (positions_of F) (λ p. not (satisfies (assignment_of lits) (clause_at F p)))

-- A model is checked at each position, and a refutation at each step, over all positions and with no variable blocked. A core
-- is checked at the positions of its clauses, at each step of its refutation, over these positions alone, and at each of
-- them with its literals.
abbrev pub checks_of_answer : Cnf → Answer → List Check
checks_of_answer F (Model lits) = model_fails F lits ∷ []
checks_of_answer F (Refuted r) = bad_step no_variable F (positions_of F) (r ∷ []) ∷ []
checks_of_answer F (Core a) = checks_of_core F a

-- the first kind that fails, with its first place
abbrev pub first_failure_of_answer : Cnf → Answer → Option Why
first_failure_of_answer F a = first_of (checks_of_answer F a)
