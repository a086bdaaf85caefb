-- Walks to free variables, and what is left when their pairs are exchanged.
use Rattle.std.specs.Prelude.{◌≡◌, ◌≢◌, ℕ, ◌+◌, ◌-◌, ◌<◌, ◌≤◌, ◌⊎◌, List, map, length, slice_index, IsTrue}
use Rattle.lk_model.specs.Formulas.Formula.{Cnf, is_formula}
use Rattle.bipartite_match.specs.Matchings.{joins}
use Rattle.bipartite_match.specs.Pairing.{Pairing, IsPairing, count_of}
use Rattle.matching_layers.specs.Found.{Found}
use Rattle.bipartite_match.specs.Found.{IsSearchOutcome}
use Rattle.bipartite_match.specs.declared.paths.Step.{Step}

-- the search ended at a free variable
pub record HasWalk (F : Cnf) (part : List ℕ) (m : Pairing) (s : Found) : Type 0 where
  pub formula : IsTrue (is_formula F)
  pub few : length part ≤ 4000000
  pub pairing : IsPairing F part m
  pub found : IsSearchOutcome F part m s
  pub end : s.end ≢ 0

-- one pair more
abbrev pub AugmentsWalk : Pairing → Found → Pairing → Type 0
AugmentsWalk m s after = (F : Cnf) (part : List ℕ) → HasWalk F part m s → IsPairing F part after × (count_of after ≡ count_of m + 1)

-- the indices of the clauses of a path
abbrev pub indices_of : List Step → List ℕ
indices_of path = map (λ (s : Step). s.index) path

-- Different clauses: the first is unmatched, and each contains the variable of the next.
pub record IsPath (F : Cnf) (part : List ℕ) (m : Pairing) (path : List ℕ) : Type 0 where
  pub index : (k : ℕ) → k < length path → slice_index path k < length part
  pub once : (k l : ℕ) → k < length path → l < length path → slice_index path k ≡ slice_index path l → k ≡ l
  pub root : 0 < length path → slice_index m.of_clause (slice_index path 0) ≡ 0
  pub linked : (k : ℕ) → k + 1 < length path → (slice_index m.of_clause (slice_index path (k + 1)) ≢ 0)
      × IsTrue (joins F part (slice_index path k) (slice_index m.of_clause (slice_index path (k + 1))))

-- the last clause of it contains a free variable
pub record EndsAt (F : Cnf) (part : List ℕ) (m : Pairing) (path : List ℕ) (v : ℕ) : Type 0 where
  pub chain : IsPath F part m path
  pub some : 0 < length path → 0 < v
  pub begun : 0 < v → 0 < length path
  pub holds : 0 < length path → IsTrue (joins F part (slice_index path (length path - 1)) v)
  pub free : 0 < length path → slice_index m.of_var (v - 1) ≡ 0

pub record HasPath (F : Cnf) (part : List ℕ) (m : Pairing) (path : List ℕ) (v : ℕ) : Type 0 where
  pub formula : IsTrue (is_formula F)
  pub few : length part ≤ 4000000
  pub pairing : IsPairing F part m
  pub ends : EndsAt F part m path v

-- a matching, and one pair more if the path has a clause
abbrev pub AugmentsPath : Pairing → List ℕ → ℕ → Pairing → Type 0
AugmentsPath m path v after = (F : Cnf) (part : List ℕ) → HasPath F part m path v → IsPairing F part after × (0 < length path → count_of after ≡ count_of m + 1)

-- The variable is free, if the clause after `depth` others is in the last layer. Otherwise it is that of a clause in
-- the next layer.
abbrev pub LeadsOn : List ℕ → List ℕ → ℕ → ℕ → ℕ → Type 0
LeadsOn of_var layer depth last v = ((depth + 1 ≡ last) × (slice_index of_var (v - 1) ≡ 0))
    ⊎ ((depth + 1 ≢ last) × (slice_index of_var (v - 1) ≢ 0) × (slice_index layer (slice_index of_var (v - 1) - 1) ≡ depth + 2))
