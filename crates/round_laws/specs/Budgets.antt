-- Parts of a formula that are finished by a number of learned clauses.
use Rattle.std.specs.Prelude.{ℕ, ◌≤◌, List, [], ◌∷◌, ⊤, length}
use Rattle.lk_model.specs.Formulas.Formula.{Cnf}
use Rattle.lk_model.specs.Formulas.Crossed.{Variables, no_variable, formula_without}
use Rattle.lk_model.specs.Chains.Rounds.{AreNeeded}
use Rattle.lk_model.specs.Checks.RoundChecks.{learned_steps}
use Rattle.lk_model.specs.declared.result.GeneralResult.{GeneralResult}
use Rattle.general_laws.specs.GeneralResults.{IsGeneralResult}

-- A part is finished by at most `conflicts` learned clauses: its kernel is found, by rounds with nothing needless.
pub record IsFinished (F : Cnf) (conflicts : ℕ) (part : List ℕ) (r : GeneralResult) : Type 0 where
  pub result : IsGeneralResult F part r
  pub needed : AreNeeded F no_variable r.rounds
  pub most : length (learned_steps r.rounds) ≤ conflicts

-- one result for each of these parts
abbrev pub AreFinished : Cnf → ℕ → List (List ℕ) → List GeneralResult → Type 0
AreFinished F conflicts [] [] = ⊤
AreFinished F conflicts (part ∷ parts) (r ∷ found) = IsFinished F conflicts part r × AreFinished F conflicts parts found
AreFinished F conflicts _ _ = ⊥

-- `conflicts` learned clauses are enough to finish the part, where the variables of P are protected
abbrev pub CanBeFinished : Variables → Cnf → ℕ → List ℕ → Type 0
CanBeFinished P F conflicts part = (r : GeneralResult) × IsFinished (formula_without F P) conflicts part r
