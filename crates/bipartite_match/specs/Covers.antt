-- What shows that a matching is maximum: a set of clauses whose variables all are matched within the set (König 1931).
use Rattle.std.specs.Prelude.{◌≡◌, ◌≢◌, ℕ, ◌-◌, ◌⊎◌, ◌↔◌, ⊤, List, slice_index, IsTrue}
use Rattle.lk_model.specs.Lists.{among}
use Rattle.lk_model.specs.Formulas.Literal.{mentions}
use Rattle.lk_model.specs.Formulas.Formula.{Cnf, clause_at, is_formula}
use Rattle.lk_model.specs.Formulas.Lean.{are_positions}
use Rattle.bipartite_match.specs.declared.augmenting.Start.{Start}
use Rattle.bipartite_match.specs.declared.augmenting.Start.TheVariants.{Clause, Variable}
use Rattle.bipartite_match.specs.declared.matching.Matching.{Matching}
use Rattle.bipartite_match.specs.Matchings.{IsMatching, IsMaximum, IsUnmatched}
use Rattle.bipartite_match.specs.Ways.{IsLonger}

-- All unmatched clauses are in the set, and each variable of its clauses is matched with a clause of it.
pub record IsCover (F : Cnf) (part : List ℕ) (m : Matching) (R : List ℕ) : Type 0 where
  pub within : (p : ℕ) → IsTrue (among R p) → IsTrue (among part p)
  pub unmatched : (p : ℕ) → IsUnmatched part m p → IsTrue (among R p)
  pub closed : (p v : ℕ) → IsTrue (among R p) → IsTrue (mentions (clause_at F p) v) → IsTrue (among R (slice_index m.of_var (v - 1)))

abbrev pub HasCover : Cnf → List ℕ → Matching → Type 0
HasCover F part m = (R : List ℕ) × IsCover F part m R

-- a matching with a cover is maximum, and each maximum one has a cover
pub record CoverLaw : Type 0 where
  pub maximum : (F : Cnf) (part : List ℕ) (m : Matching) → IsTrue (is_formula F) → IsTrue (are_positions F part) → IsMatching F part m → HasCover F part m → IsMaximum F part m
  pub cover : (F : Cnf) (part : List ℕ) (m : Matching) → IsTrue (is_formula F) → IsTrue (are_positions F part) → IsMaximum F part m → HasCover F part m

-- A cover but for one start: a clause that need not be in the set, or a variable that need not be matched. There is
-- such a cover after a clause has come, or one has gone whose variable is free now.
abbrev pub IsOther : Start → ℕ → Type 0
IsOther (Clause q) p = p ≢ q
IsOther (Variable v) p = ⊤

abbrev pub IsFreed : Start → ℕ → Type 0
IsFreed (Clause q) v = ⊥
IsFreed (Variable u) v = v ≡ u

pub record IsCoverBut (F : Cnf) (part : List ℕ) (m : Matching) (from : Start) (R : List ℕ) : Type 0 where
  pub within : (p : ℕ) → IsTrue (among R p) → IsTrue (among part p)
  pub unmatched : (p : ℕ) → IsUnmatched part m p → IsOther from p → IsTrue (among R p)
  pub closed : (p v : ℕ) → IsTrue (among R p) → IsTrue (mentions (clause_at F p) v) → IsTrue (among R (slice_index m.of_var (v - 1))) ⊎ IsFreed from v

abbrev pub HasCoverBut : Cnf → List ℕ → Matching → Start → Type 0
HasCoverBut F part m from = (R : List ℕ) × IsCoverBut F part m from R

-- what is left when the pairs of a path from the start are exchanged, whose clause without a variable is at the root
pub record IsAugmented (F : Cnf) (part : List ℕ) (from : Start) (m after : Matching) (root : ℕ) : Type 0 where
  pub longer : IsLonger F part m after
  pub covered : (R : List ℕ) → IsCoverBut F part m from R → IsCover F part after R
  pub began : IsUnmatched part m root
  pub others : (p : ℕ) → IsUnmatched part after p ↔ (IsUnmatched part m p × (p ≢ root))
