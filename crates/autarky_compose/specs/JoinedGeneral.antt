-- What the general reducer finds in the parts of a formula, joined.
use Rattle.std.specs.Prelude.{◌≡◌, ◌^◌, ◌+◌, ◌<◌, ◌≤◌, ℕ, List, [], ◌∷◌, ◌++◌, length, map, ℤ, All}
use Rattle.std.specs.List.{flat_map}
use Rattle.lk_model.specs.Formulas.Literal.{variable}
use Rattle.lk_model.specs.Formulas.Formula.{Cnf, positions_of}
use Rattle.lk_model.specs.Formulas.Parts.{AreParts}
use Rattle.lk_model.specs.Documents.Documents.{steps_of}
use Rattle.lk_model.specs.declared.document.Round.{Round}
use Rattle.lk_model.specs.declared.result.GeneralResult.{GeneralResult}
use Rattle.general_laws.specs.JoinLaw.{moved, renumbered_round}
use Rattle.general_laws.specs.GeneralResults.{IsGeneralResult, AreGeneralResults}
use Rattle.autarky_compose.specs.Ordered.{AreInOrder}
use Rattle.autarky_compose.specs.Tables.{AreDistinct}

-- what all results keep, and the literals that they make true
abbrev pub all_kept : List GeneralResult → List ℕ
all_kept found = flat_map (λ (r : GeneralResult). r.kept) found

abbrev pub all_set : List GeneralResult → List ℤ
all_set found = flat_map (λ (r : GeneralResult). r.set) found

-- results that can be joined: they keep positions of m clauses, and no variable has two literals
pub record AreJoinable (m : ℕ) (found : List GeneralResult) : Type 0 where
  pub kept : All (λ (p : ℕ). (0 < p) × (p ≤ m)) (all_kept found)
  pub set : All (λ (l : ℤ). 0 < variable l) (all_set found)
  pub apart : AreDistinct variable (all_set found)

-- Rounds over m clauses, and those of the results after them. Each result's steps are moved after all earlier ones.
abbrev pub rounds_behind : ℕ → List Round → List GeneralResult → List Round
rounds_behind m rounds [] = rounds
rounds_behind m rounds (r ∷ found) = rounds_behind m (rounds ++ map (renumbered_round (moved m (length (steps_of rounds)))) r.rounds) found

-- A result made of them all: the positions that they keep, their literals by variable, and their rounds, whose steps have
-- numbers of 64 bits. The variables are numbers of 32 bits.
pub record AreJoined (m : ℕ) (found : List GeneralResult) (t : GeneralResult) : Type 0 where
  pub kept : AreInOrder (λ p. p) m (all_kept found) t.kept
  pub set : AreInOrder variable (2 ^ 32) (all_set found) t.set
  pub rounds : t.rounds ≡ rounds_behind m [] found
  pub numbers : m + length (steps_of t.rounds) < 2 ^ 64

-- THE LAW

pub record JoinedGeneralLaw : Type 0 where
  -- What the general reducer finds in the parts of a formula can be joined.
  pub joinable : (F : Cnf) (parts : List (List ℕ)) (found : List GeneralResult) → AreParts F parts → AreGeneralResults F parts found
      → AreJoinable (length F.clauses) found
  -- Joined, it is what the reducer finds in all positions.
  pub whole : (F : Cnf) (parts : List (List ℕ)) (found : List GeneralResult) (t : GeneralResult) → AreParts F parts
      → AreGeneralResults F parts found → AreJoined (length F.clauses) found t → IsGeneralResult F (positions_of F) t
