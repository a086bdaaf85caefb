-- The parts of the matching kernel of a formula, given by their positions in the formula.
use Rattle.std.specs.Prelude.{◌≡◌, ℕ, ℤ, List, map, IsTrue}
use Rattle.lk_model.specs.declared.class.Class.TheVariants.{Matching}
use Rattle.lk_model.specs.Formulas.Formula.{Cnf, clauses_at}
use Rattle.lk_model.specs.Formulas.Lean.{are_positions, Kernel}
use Rattle.lk_model.specs.Formulas.Parts.{IsPart, AreParts}
use Rattle.lk_model.specs.declared.result.GeneralResult.{GeneralResult}
use Rattle.general_laws.specs.GeneralResults.{AreGeneralResults}
use Rattle.autarky_compose.specs.JoinedGeneral.{AreJoined}
use Rattle.renaming_laws.specs.Renaming.{nth}
use Rattle.part_copy.specs.Found.{are_filled, sets_only}

-- what stands at the places of a part in the list of kept positions
abbrev pub told : List ℕ → List ℕ → List ℕ
told kept part = map (nth kept) part

-- a part of the formula that has the clauses of the matching kernel alone, given so
pub record IsKernelPart (F : Cnf) (part : List ℕ) : Type 0 where
  pub kept : List ℕ
  pub kernel : Kernel Matching F kept
  pub places : List ℕ
  pub is_part : IsPart (clauses_at F kept) places
  pub told_is : part ≡ told kept places

-- the parts of the formula that has the kept clauses alone, given so
pub record AreKernelParts (F : Cnf) (kept : List ℕ) (list : List (List ℕ)) : Type 0 where
  pub parts : List (List ℕ)
  pub are : AreParts (clauses_at F kept) parts
  pub told_are : list ≡ map (told kept) parts

-- the parts of the matching kernel, in their order
pub record AreMatchingParts (F : Cnf) (list : List (List ℕ)) : Type 0 where
  pub kept : List ℕ
  pub kernel : Kernel Matching F kept
  pub are : AreKernelParts F kept list

-- positions of clauses that are not empty
pub record IsFilledPart (F : Cnf) (part : List ℕ) : Type 0 where
  pub positions : IsTrue (are_positions F part)
  pub filled : IsTrue (are_filled F part)

-- a model for each part of the formula that has the kept clauses alone
pub record AreKernelModels (F : Cnf) (kept : List ℕ) (models : List (List ℤ)) : Type 0 where
  pub parts : List (List ℕ)
  pub are : AreParts (clauses_at F kept) parts
  pub each : AreGeneralResults (clauses_at F kept) parts (map sets_only models)

-- the literals of these models, joined
pub record IsJoinedModel (models : List (List ℤ)) (lits : List ℤ) : Type 0 where
  pub result : GeneralResult
  pub joined : AreJoined 0 (map sets_only models) result
  pub literals : lits ≡ result.set
