-- What is found of the general kernel in a part of a formula.
use Rattle.std.specs.Prelude.{◌≡◌, ℕ, ◌*◌, ◌^◌, ◌<◌, ◌≤◌, Bool, List, ℤ, filter, length, IsTrue}
use Rattle.std.specs.Bool.{IsFalse}
use Rattle.std.specs.List.{list_all}
use Rattle.lk_model.specs.Formulas.Literal.{variable, mentions}
use Rattle.lk_model.specs.Formulas.Formula.{Cnf, clause_at}
use Rattle.lk_model.specs.Formulas.Crossed.{Variables, no_variable}
use Rattle.lk_model.specs.Chains.Rounds.{blocked_after, AreNeeded}
use Rattle.lk_model.specs.Chains.Searches.{WantsMore}
use Rattle.lk_model.specs.Checks.RoundChecks.{learned_steps}
use Rattle.lk_model.specs.declared.document.Round.{Round}
use Rattle.lk_model.specs.declared.result.GeneralResult.{GeneralResult}
use Rattle.general_laws.specs.GeneralResults.{IsGeneralResult}
use Rattle.general_laws.specs.OpenResults.{IsOpenResult}
use Rattle.lk_model.specs.declared.result.General.{General}
use Rattle.lk_model.specs.declared.result.General.TheVariants.{Done, Unfinished}

-- each variable of the clause is in the set
abbrev pub has_only : Variables → List ℤ → Bool
has_only vars c = list_all (λ l. vars (variable l)) c

-- the positions of the part whose clauses have only variables of the set
abbrev pub covered : Cnf → Variables → List ℕ → List ℕ
covered F vars part = filter (λ p. has_only vars (clause_at F p)) part

-- A kernel of the part with its rounds. What is kept are the positions whose variables the rounds block, and the set has none
-- of these variables. The rounds have at most as many learned clauses as were allowed, and nothing of them is
-- needless.
pub record IsDone (F : Cnf) (part : List ℕ) (conflicts : ℕ) (r : GeneralResult) : Type 0 where
  pub result : IsGeneralResult F part r
  pub kept : r.kept ≡ covered F (blocked_after F no_variable r.rounds) part
  pub unblocked : (v : ℕ) → IsTrue (mentions r.set v) → IsFalse (blocked_after F no_variable r.rounds v)
  pub most : length (learned_steps r.rounds) ≤ conflicts
  pub needed : AreNeeded F no_variable r.rounds

-- Rounds over the part with as many learned clauses as were allowed, which are fewer than n * 3^n for the n variables
-- of the formula. The last one is not at its end.
pub record IsUnfinished (F : Cnf) (part : List ℕ) (conflicts : ℕ) (rounds : List Round) : Type 0 where
  pub result : IsOpenResult F part rounds
  pub all : length (learned_steps rounds) ≡ conflicts
  pub few : conflicts < F.vars * 3 ^ F.vars
  pub wants : WantsMore F no_variable part rounds

abbrev pub IsFound : Cnf → List ℕ → ℕ → General → Type 0
IsFound F part conflicts (Done r) = IsDone F part conflicts r
IsFound F part conflicts (Unfinished rounds) = IsUnfinished F part conflicts rounds
