-- How many clauses rounds learn in each part of a formula.
use Rattle.std.specs.Prelude.{◌≡◌, ℕ, ◌≤◌, List, [], ◌∷◌, ⊤, length, IsTrue}
use Rattle.std.specs.List.{flat_map}
use Rattle.lk_model.specs.Formulas.Formula.{Cnf}
use Rattle.lk_model.specs.Formulas.Crossed.{Variables}
use Rattle.lk_model.specs.Formulas.Parts.{ArePartsUnder}
use Rattle.lk_model.specs.Chains.Rounds.{names_within}
use Rattle.lk_model.specs.Checks.RoundChecks.{learned_steps}
use Rattle.lk_model.specs.declared.document.Round.{Round}

-- one piece of rounds for each part: they name positions of the part alone, and learn at most `conflicts` clauses
abbrev pub AreLearnedWithin : Cnf → ℕ → List (List ℕ) → List (List Round) → Type 0
AreLearnedWithin F conflicts [] [] = ⊤
AreLearnedWithin F conflicts (part ∷ parts) (piece ∷ pieces) =
    IsTrue (names_within F part piece) × (length (learned_steps piece) ≤ conflicts) × AreLearnedWithin F conflicts parts pieces
AreLearnedWithin F conflicts _ _ = ⊥

-- rounds that are those of the parts one after another, each with at most `conflicts` learned clauses
pub record AreWithinBudget (P : Variables) (F : Cnf) (conflicts : ℕ) (rounds : List Round) : Type 0 where
  pub parts : List (List ℕ)
  pub pieces : List (List Round)
  pub are_parts : ArePartsUnder P F parts
  pub all : rounds ≡ flat_map (λ piece. piece) pieces
  pub each : AreLearnedWithin F conflicts parts pieces
