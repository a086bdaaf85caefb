-- What is learned over a part, where each other clause has a variable that the part does not have.
use Rattle.std.specs.Prelude.{◌≡◌, ℕ, List, length, None, IsTrue}
use Rattle.std.specs.Bool.{IsFalse}
use Rattle.lk_model.specs.Lists.{among, is_empty}
use Rattle.lk_model.specs.Formulas.Literal.{mentions}
use Rattle.lk_model.specs.Formulas.Formula.{Cnf, clause_at, variable_occurs, positions_of}
use Rattle.lk_model.specs.Formulas.Lean.{are_positions, all_of}
use Rattle.lk_model.specs.Formulas.Crossed.{Variables, crossed_out}
use Rattle.lk_model.specs.Documents.Documents.{steps_of}
use Rattle.lk_model.specs.Documents.Form.{are_steps}
use Rattle.lk_model.specs.Checks.RoundChecks.{bad_step, not_learned}
use Rattle.lk_model.specs.declared.document.Round.{Round}
use Rattle.general_laws.specs.JoinLaw.{IsApart}

-- a variable of the clause that is not blocked from the start, and that no clause of the part has
pub record HasForeign (base : Variables) (F : Cnf) (part : List ℕ) (p : ℕ) : Type 0 where
  pub variable : ℕ
  pub here : IsTrue (mentions (clause_at F p) variable)
  pub unblocked : IsFalse (base variable)
  pub foreign : IsFalse (variable_occurs F part variable)

-- each other clause has such a variable, unless all its variables are blocked from the start
abbrev pub IsAmongForeign : Variables → Cnf → List ℕ → Type 0
IsAmongForeign base F part = (p : ℕ) → IsTrue (all_of F p) → IsFalse (among part p) → IsFalse (is_empty (crossed_out base (clause_at F p)))
    → HasForeign base F part p

-- A part that shares no variable with the other positions is such a part. What rounds over such a part state and learn they
-- do over all positions.
pub record ForeignLaw : Type 0 where
  pub apart : (base : Variables) (F : Cnf) (part : List ℕ) → IsApart F part → IsAmongForeign base F part
  pub whole : (F : Cnf) (base : Variables) (part : List ℕ) (rounds : List Round) → IsTrue (are_positions F part)
      → IsTrue (are_steps F.vars (length F.clauses) (steps_of rounds)) → IsAmongForeign base F part
      → (bad_step base F part rounds).place ≡ None → (not_learned base F part rounds).place ≡ None
      → ((bad_step base F (positions_of F) rounds).place ≡ None) × ((not_learned base F (positions_of F) rounds).place ≡ None)
