-- What is decided of a formula by its parts.
use Rattle.std.specs.Prelude.{◌≡◌, ℕ, List, [], ◌∷◌, ◌++◌, ⊤, ℤ, IsTrue}
use Rattle.std.specs.List.{AllByRecursion}
use Rattle.lk_model.specs.Lists.{among}
use Rattle.lk_model.specs.Formulas.Formula.{Cnf, positions_of}
use Rattle.lk_model.specs.Formulas.Lean.{are_positions}
use Rattle.lk_model.specs.Formulas.Minimal.{IsSatisfiable}
use Rattle.lk_model.specs.declared.result.GeneralResult.{GeneralResult}
use Rattle.lk_model.specs.declared.decided.Decided.{Decided}
use Rattle.lk_model.specs.declared.decided.Decided.TheVariants.{Model, Refuted, Stopped}
use Rattle.part_copy.specs.Found.{IsPartModel, IsPartRefuted, sets_only}
use Rattle.part_formula.specs.declared.deciding.Refuted.{Refuted as Refutation}
use Rattle.mus_core.specs.Found.{IsMus, IsNotRefuted, IsStoppedAt}
use Rattle.mus_core.specs.declared.by_parts.Stop.{Stop}
use Rattle.mus_core.specs.declared.mus.Mus.{Mus}

-- as many learned clauses as were allowed did not decide the clauses at its positions
abbrev pub IsStop : Cnf → ℕ → Stop → Type 0
IsStop F conflicts s = IsStoppedAt F conflicts s.part s.open.texts s.open.round

-- a refutation of the clauses at its positions, by at most `conflicts` learned clauses
pub record IsRefutedSet (F : Cnf) (conflicts : ℕ) (r : Refutation) : Type 0 where
  pub positions : IsTrue (are_positions F r.used)
  pub refuted : IsPartRefuted F r.used conflicts r.round

-- a model of the part's clauses, a refutation of clauses of the formula, or a search over the part that stopped
abbrev pub IsPartDecided : Cnf → ℕ → List ℕ → Decided (List ℤ) Refutation Stop → Type 0
IsPartDecided F conflicts part (Model lits) = IsPartModel F part lits
IsPartDecided F conflicts part (Refuted r) = IsRefutedSet F conflicts r
IsPartDecided F conflicts part (Stopped s) = IsStop F conflicts s × (s.part ≡ part)

-- Of these parts it is the first whose search stopped, and none of them is refuted.
pub record IsFirstStop (F : Cnf) (conflicts : ℕ) (parts : List (List ℕ)) (s : Stop) : Type 0 where
  pub stop : IsStop F conflicts s
  pub before : List (List ℕ)
  pub behind : List (List ℕ)
  pub are : parts ≡ before ++ s.part ∷ behind
  pub models : AllByRecursion (λ p. IsSatisfiable F (among p)) before
  pub others : AllByRecursion (IsNotRefuted F conflicts) behind

-- a model of the formula, a refutation of some of its clauses, or the result that the search stopped
abbrev pub IsDecidedByParts : Cnf → ℕ → Decided (List ℤ) Refutation Mus → Type 0
IsDecidedByParts F conflicts (Model lits) = IsPartModel F (positions_of F) lits
IsDecidedByParts F conflicts (Refuted r) = IsRefutedSet F conflicts r
IsDecidedByParts F conflicts (Stopped m) = IsMus F conflicts m

-- one model for each of these parts, as a result that keeps nothing
abbrev pub AreModels : Cnf → List (List ℕ) → List GeneralResult → Type 0
AreModels F [] [] = ⊤
AreModels F (part ∷ parts) (r ∷ found) = IsPartModel F part r.set × (r ≡ sets_only r.set) × AreModels F parts found
AreModels F _ _ = ⊥
