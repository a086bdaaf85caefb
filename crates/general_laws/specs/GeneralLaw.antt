-- What the checks of a general document show, as one law.
use Rattle.std.specs.Prelude.{◌≡◌, ℕ, List, None, IsTrue, length}
use Rattle.lk_model.specs.declared.class.Class.TheVariants.{General}
use Rattle.lk_model.specs.Lists.{among}
use Rattle.lk_model.specs.Formulas.Formula.{Cnf, is_formula, variable_occurs, clause_at}
use Rattle.lk_model.specs.Formulas.Crossed.{Variables}
use Rattle.lk_model.specs.Formulas.Literal.{mentions}
use Rattle.lk_model.specs.Chains.Rounds.{is_refutation, used_positions, blocked_after_round, blocked_after}
use Rattle.lk_model.specs.Formulas.Assignment.{Assignment}
use Rattle.lk_model.specs.Formulas.Autarky.{IsAutarky}
use Rattle.lk_model.specs.Formulas.Protected.{SetsNone, IsLeanUnder}
use Rattle.lk_model.specs.Documents.Documents.{steps_of}
use Rattle.lk_model.specs.Documents.Form.{are_steps}
use Rattle.lk_model.specs.Checks.RoundChecks.{bad_step}
use Rattle.lk_model.specs.declared.document.Round.{Round}
use Rattle.kernel_laws.specs.Accepted.{AcceptedReduces}

-- Where the steps of rounds over some positions are numbered and state the clauses of their chains, an autarky on these
-- positions that sets no variable blocked from the start sets none that the rounds block. So the positions are lean if all
-- their variables are blocked. A whole round blocks all variables of the clauses that it uses, and they stay blocked.
-- A general document that the checks accept is a reduction of the formula.
pub record GeneralLaw : Type 0 where
  pub unset : (F : Cnf) (base : Variables) (part : List ℕ) (rounds : List Round) (φ : Assignment)
      → IsTrue (are_steps F.vars (length F.clauses) (steps_of rounds)) → (bad_step base F part rounds).place ≡ None
      → IsAutarky F (among part) φ → SetsNone base φ → SetsNone (blocked_after F base rounds) φ
  pub lean : (F : Cnf) (base : Variables) (part : List ℕ) (rounds : List Round) → IsTrue (is_formula F)
      → IsTrue (are_steps F.vars (length F.clauses) (steps_of rounds)) → (bad_step base F part rounds).place ≡ None
      → ((v : ℕ) → IsTrue (variable_occurs F part v) → IsTrue (blocked_after F base rounds v)) → IsLeanUnder base General F (among part)
  pub used : (F : Cnf) (blocked : Variables) (r : Round) (p v : ℕ) → IsTrue (is_refutation r.steps) → IsTrue (among (used_positions F r) p)
      → IsTrue (mentions (clause_at F p) v) → IsTrue (blocked_after_round F blocked r v)
  pub stays : (F : Cnf) (blocked : Variables) (rounds : List Round) (v : ℕ) → IsTrue (blocked v) → IsTrue (blocked_after F blocked rounds v)
  pub accepted : AcceptedReduces General
