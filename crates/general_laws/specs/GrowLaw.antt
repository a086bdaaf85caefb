-- Rounds to which one more is added.
use Rattle.std.specs.Prelude.{◌≡◌, ℕ, ◌+◌, not, ◌||◌, List, [], ◌∷◌, ◌++◌, map, length, None, IsTrue}
use Rattle.std.specs.List.{list_all}
use Rattle.lk_model.specs.Lists.{is_empty}
use Rattle.lk_model.specs.Formulas.Formula.{Cnf}
use Rattle.lk_model.specs.Formulas.Crossed.{Variables}
use Rattle.lk_model.specs.Chains.Rounds.{is_refutation, variables_used, blocked_after_round, blocked_after, has_progress}
use Rattle.lk_model.specs.Documents.Documents.{steps_of}
use Rattle.lk_model.specs.Documents.Form.{counts_from, is_step, are_steps, is_whole, is_open, end_open}
use Rattle.lk_model.specs.Checks.RoundChecks.{bad_step, not_learned}
use Rattle.lk_model.specs.declared.document.Step.{Step}
use Rattle.lk_model.specs.declared.document.Round.{Round}
use Rattle.general_laws.specs.CountLaw.{are_stated, are_learned}

-- What is said of rounds and of one more over the variables that they block, is said of them together.
pub record GrowLaw : Type 0 where
  pub stated : (F : Cnf) (base : Variables) (part : List ℕ) (rounds : List Round) (r : Round) → (bad_step base F part rounds).place ≡ None
      → IsTrue (are_stated F part (blocked_after F base rounds) r.steps) → (bad_step base F part (rounds ++ r ∷ [])).place ≡ None
  pub learned : (F : Cnf) (base : Variables) (part : List ℕ) (rounds : List Round) (r : Round) → (not_learned base F part rounds).place ≡ None
      → IsTrue (are_learned F part (blocked_after F base rounds) r.steps) → (not_learned base F part (rounds ++ r ∷ [])).place ≡ None
  pub progress : (F : Cnf) (base : Variables) (rounds : List Round) (r : Round) → IsTrue (has_progress F base rounds)
      → IsTrue (not (is_refutation r.steps) || not (is_empty (variables_used F (blocked_after F base rounds) r)))
      → IsTrue (has_progress F base (rounds ++ r ∷ []))
  pub blocked : (F : Cnf) (base : Variables) (rounds : List Round) (r : Round)
      → blocked_after F base (rounds ++ r ∷ []) ≡ blocked_after_round F (blocked_after F base rounds) r
  pub steps : (n m : ℕ) (rounds : List Round) (r : Round) → IsTrue (are_steps n m (steps_of rounds))
      → IsTrue (counts_from (m + 1 + length (steps_of rounds)) (map (λ (s : Step). s.number) r.steps))
      → IsTrue (list_all (is_step n) r.steps) → IsTrue (are_steps n m (steps_of (rounds ++ r ∷ [])))
  pub whole : (rounds : List Round) (r : Round) → IsTrue (list_all is_whole rounds) → IsTrue (is_whole r) → IsTrue (list_all is_whole (rounds ++ r ∷ []))
  pub ends : (rounds : List Round) (r : Round) → IsTrue (list_all is_whole rounds) → IsTrue (is_open r) → IsTrue (end_open (rounds ++ r ∷ []))
