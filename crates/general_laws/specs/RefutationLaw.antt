-- Clauses that a round refutes have no model.
use Rattle.std.specs.Prelude.{ℕ, List}
use Rattle.lk_model.specs.Lists.{among}
use Rattle.lk_model.specs.Formulas.Formula.{Cnf}
use Rattle.lk_model.specs.Formulas.Minimal.{IsUnsatisfiable}
use Rattle.lk_model.specs.Checks.RoundChecks.{IsRefutation}
use Rattle.lk_model.specs.declared.document.Round.{Round}

-- No assignment satisfies the clauses at the positions, if a round refutes them.
pub record RefutationLaw : Type 0 where
  pub no_model : (F : Cnf) (part : List ℕ) (r : Round) → IsRefutation F part r → IsUnsatisfiable F (among part)
