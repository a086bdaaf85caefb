-- What is found of the general kernel by parts.
use Rattle.std.specs.Prelude.{◌≡◌, ℕ, List, [], ◌∷◌, ◌++◌, ⊤, map, IsTrue}
use Rattle.std.specs.List.{AllByRecursion}
use Rattle.lk_model.specs.Formulas.Formula.{Cnf, positions_of}
use Rattle.lk_model.specs.Formulas.Crossed.{no_variable}
use Rattle.lk_model.specs.Formulas.Lean.{are_positions}
use Rattle.lk_model.specs.Formulas.Parts.{IsPart, AreParts}
use Rattle.lk_model.specs.Chains.Rounds.{AreNeeded}
use Rattle.lk_model.specs.declared.document.Round.{Round}
use Rattle.lk_model.specs.declared.result.GeneralResult.{GeneralResult}
use Rattle.general_laws.specs.GeneralResults.{IsGeneralResult, AreJoined}
use Rattle.general_laws.specs.JoinLaw.{IsApart}
use Rattle.lk_model.specs.Chains.Budgets.{AreWithinBudget}
use Rattle.general_laws.specs.Found.{IsDone, IsUnfinished, IsFound}
use Rattle.lk_model.specs.declared.result.General.{General}
use Rattle.lk_model.specs.declared.result.General.TheVariants.{Done, Unfinished}

-- one answer for each of these parts
abbrev pub AreFound : Cnf → ℕ → List (List ℕ) → List General → Type 0
AreFound F conflicts [] [] = ⊤
AreFound F conflicts (part ∷ parts) (answer ∷ answers) =
    IsFound F part conflicts answer × AreFound F conflicts parts answers
AreFound F conflicts _ _ = ⊥

-- MADE OF ANSWERS

-- the answers that these kernels are
abbrev pub done : List GeneralResult → List General
done found = map (λ (r : GeneralResult). Done r) found

-- all answers are kernels, and this one is made of them
pub record IsJoinedOf (F : Cnf) (answers : List General) (t : GeneralResult) : Type 0 where
  pub found : List GeneralResult
  pub all : answers ≡ done found
  pub joined : AreJoined F found t

-- the rounds of the first answer that is not finished
pub record IsFirstOf (answers : List General) (rounds : List Round) : Type 0 where
  pub before : List GeneralResult
  pub after : List General
  pub all : answers ≡ done before ++ Unfinished rounds ∷ after

-- what answers make, in their order
abbrev pub IsMadeOf : Cnf → List General → General → Type 0
IsMadeOf F answers (Done t) = IsJoinedOf F answers t
IsMadeOf F answers (Unfinished rounds) = IsFirstOf answers rounds

-- The same answers make the same result.
pub record MadeLaw : Type 0 where
  pub one : (F : Cnf) (answers : List General) (found other : General) → IsMadeOf F answers found
      → IsMadeOf F answers other → found ≡ other

-- WHAT THAT SHOWS

-- What the reducer finds in all positions, by rounds of which nothing is needless, with at most `conflicts` learned
-- clauses for each part.
pub record IsFoundWhole (F : Cnf) (conflicts : ℕ) (t : GeneralResult) : Type 0 where
  pub result : IsGeneralResult F (positions_of F) t
  pub needed : AreNeeded F no_variable t.rounds
  pub budget : AreWithinBudget no_variable F conflicts t.rounds

-- the kernel of a part is found by at most `conflicts` learned clauses
abbrev pub CanBeDone : Cnf → ℕ → List ℕ → Type 0
CanBeDone F conflicts part = (r : GeneralResult) × IsDone F part conflicts r

-- Rounds over one part, which end unfinished; the kernels of the parts before it are found. It shares no variable with the
-- other positions.
pub record IsFirstUnfinished (F : Cnf) (conflicts : ℕ) (rounds : List Round) : Type 0 where
  pub before : List (List ℕ)
  pub part : List ℕ
  pub after : List (List ℕ)
  pub parts : AreParts F (before ++ part ∷ after)
  pub done : AllByRecursion (CanBeDone F conflicts) before
  pub is_part : IsPart F part
  pub positions : IsTrue (are_positions F part)
  pub apart : IsApart F part
  pub unfinished : IsUnfinished F part conflicts rounds

abbrev pub Shows : Cnf → ℕ → General → Type 0
Shows F conflicts (Done t) = IsFoundWhole F conflicts t
Shows F conflicts (Unfinished rounds) = IsFirstUnfinished F conflicts rounds

-- Each part of the formula has an answer, and what is found is made of these alone.
pub record IsFoundByParts (F : Cnf) (conflicts : ℕ) (found : General) : Type 0 where
  pub parts : List (List ℕ)
  pub answers : List General
  pub are_parts : AreParts F parts
  pub each : AreFound F conflicts parts answers
  pub made : IsMadeOf F answers found
  pub shows : Shows F conflicts found
