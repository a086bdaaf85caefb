-- How many clauses rounds can learn.
use Rattle.std.specs.Prelude.{◌≡◌, ℕ, ◌-◌, ◌*◌, ◌^◌, ◌<◌, ◌≤◌, Bool, true, not, ◌&&◌, ◌||◌, filter, List, [], ◌∷◌, ℤ, length, None, IsTrue}
use Rattle.std.specs.List.{list_all}
use Rattle.lk_model.specs.Lists.{is_empty, with_earlier}
use Rattle.lk_model.specs.Formulas.Literal.{is_literal, is_within, is_tautology}
use Rattle.lk_model.specs.Formulas.Formula.{Cnf, is_formula}
use Rattle.lk_model.specs.Formulas.Crossed.{Variables}
use Rattle.lk_model.specs.Chains.Chain.{states_its_clause, is_learned}
use Rattle.lk_model.specs.Chains.Rounds.{has_progress}
use Rattle.lk_model.specs.Documents.Form.{end_open}
use Rattle.lk_model.specs.Checks.RoundChecks.{bad_step, not_learned, learned_steps}
use Rattle.lk_model.specs.Checks.Checks.{IsSoundUnder, HasProgressUnder}
use Rattle.lk_model.specs.declared.document.Step.{Step}
use Rattle.lk_model.specs.declared.document.Round.{Round}
use Rattle.lk_model.specs.declared.document.OpenDocument.{OpenDocument}

-- a clause over the variables 1 to n that is not empty and contains no two complementary literals
abbrev pub is_proper : ℕ → List ℤ → Bool
is_proper n c = list_all (is_literal n) c && not (is_empty c) && not (is_tautology c)

-- no clause contains an earlier one
abbrev pub none_contains_earlier : List (List ℤ) → Bool
none_contains_earlier [] = true
none_contains_earlier (c ∷ cs) = list_all (λ d. not (is_within c d)) cs && none_contains_earlier cs

-- each step of a round states its chain's clause, and each clause that is not empty is learned
abbrev pub are_stated : Cnf → List ℕ → Variables → List Step → Bool
are_stated F part blocked steps = list_all
    (λ (earlier, s). states_its_clause (record { formula = F; part = part; blocked = blocked; earlier = earlier }) s)
    (with_earlier [] steps)

abbrev pub are_learned : Cnf → List ℕ → Variables → List Step → Bool
are_learned F part blocked steps = list_all
    (λ (earlier, s). is_empty s.clause || is_learned (record { formula = F; part = part; blocked = blocked; earlier = earlier }) s.clause)
    (with_earlier [] steps)

-- There are fewer than 3^n clauses over n variables of which none is empty, contains complementary literals or contains
-- an earlier one. So n rounds that each block a new variable learn at most n * (3^n - 1) clauses, and no further round
-- learns any.
pub record CountLaw : Type 0 where
  pub clauses : (n : ℕ) (cs : List (List ℤ)) → IsTrue (list_all (is_proper n) cs) → IsTrue (none_contains_earlier cs) → length cs < 3 ^ n
  pub steps : (F : Cnf) (part : List ℕ) (blocked : Variables) (steps : List Step) → IsTrue (is_formula F)
      → IsTrue (are_stated F part blocked steps) → IsTrue (are_learned F part blocked steps)
      → length (filter (λ (s : Step). not (is_empty s.clause)) steps) < 3 ^ F.vars
  pub rounds : (F : Cnf) (base : Variables) (part : List ℕ) (rounds : List Round) → IsTrue (is_formula F) → IsTrue (end_open rounds)
      → (bad_step base F part rounds).place ≡ None → (not_learned base F part rounds).place ≡ None → IsTrue (has_progress F base rounds)
      → length (learned_steps rounds) ≤ F.vars * (3 ^ F.vars - 1)
  pub unfinished : (F : Cnf) (base : Variables) (d : OpenDocument) → IsTrue (is_formula F) → 1 ≤ F.vars → IsSoundUnder base F d → HasProgressUnder base F d
      → (d.learned ≡ length (learned_steps d.rounds)) × (d.learned < F.vars * 3 ^ F.vars)
