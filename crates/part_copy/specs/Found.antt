-- What a search finds of the clauses of a part: a model, or a refutation.
use Rattle.std.specs.Prelude.{ℕ, Bool, not, ◌≤◌, List, [], ◌∷◌, length, ℤ}
use Rattle.std.specs.List.{list_all}
use Rattle.lk_model.specs.Lists.{is_empty}
use Rattle.lk_model.specs.Formulas.Formula.{Cnf, clause_at}
use Rattle.lk_model.specs.Formulas.Crossed.{no_variable}
use Rattle.lk_model.specs.Chains.Rounds.{AreNeeded}
use Rattle.lk_model.specs.Checks.RoundChecks.{learned_steps, IsRefutation}
use Rattle.lk_model.specs.declared.document.Round.{Round}
use Rattle.lk_model.specs.declared.result.GeneralResult.{GeneralResult}
use Rattle.general_laws.specs.GeneralResults.{IsGeneralResult}

-- no clause at these positions is empty
abbrev pub are_filled : Cnf → List ℕ → Bool
are_filled F part = list_all (λ p. not (is_empty (clause_at F p))) part

-- what the general reducer finds where it keeps nothing
abbrev pub sets_only : List ℤ → GeneralResult
sets_only lits = record { kept = []; set = lits; rounds = [] }

-- Literals on variables of the part, ascending by variable, that satisfy each of its clauses.
abbrev pub IsPartModel : Cnf → List ℕ → List ℤ → Type 0
IsPartModel F part lits = IsGeneralResult F part (sets_only lits)

-- A refutation of the part's clauses, with at most `conflicts` learned clauses. No step is needless.
pub record IsPartRefuted (F : Cnf) (part : List ℕ) (conflicts : ℕ) (r : Round) : Type 0 where
  pub refutation : IsRefutation F part r
  pub needed : AreNeeded F no_variable (r ∷ [])
  pub most : length (learned_steps (r ∷ [])) ≤ conflicts
