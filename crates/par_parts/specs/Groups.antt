-- Groups of positions that share no variable.
use Rattle.std.specs.Prelude.{◌≡◌, ℕ, ◌+◌, ◌<◌, ◌≤◌, List, [], length, slice_index, slice_index_or, IsTrue}
use Rattle.std.specs.List.{list_any, AllByRecursion}
use Rattle.lk_model.specs.Lists.{among}
use Rattle.lk_model.specs.Formulas.Literal.{mentions}
use Rattle.lk_model.specs.Formulas.Formula.{Cnf, clause_at, variable_occurs}
use Rattle.lk_model.specs.Formulas.Lean.{are_positions, all_of}

-- Groups of positions, each ascending. Each position stands in a group, and no variable occurs in two groups.
pub record IsDisjointCover (F : Cnf) (groups : List (List ℕ)) : Type 0 where
  pub each : AllByRecursion (λ (group : List ℕ). IsTrue (are_positions F group)) groups
  pub whole : (p : ℕ) → IsTrue (all_of F p) → IsTrue (list_any (λ group. among group p) groups)
  pub apart : (j k v : ℕ) → IsTrue (variable_occurs F (slice_index_or groups j []) v)
      → IsTrue (variable_occurs F (slice_index_or groups k []) v) → j ≡ k

-- Such groups, where each position stands in one group only, and there once, as groups ascend. Of a clause with a
-- literal this follows, since its variables occur in one group only; of an empty clause it does not.
pub record IsPartition (F : Cnf) (groups : List (List ℕ)) : Type 0 where
  pub cover : IsDisjointCover F groups
  pub once : (j k p : ℕ) → IsTrue (among (slice_index_or groups j []) p)
      → IsTrue (among (slice_index_or groups k []) p) → j ≡ k

-- For each position the number of its group, from 1 to a count: one number for clauses that share a variable.
pub record AreGroupNumbers (F : Cnf) (numbers : List ℕ) (count : ℕ) : Type 0 where
  pub long : length numbers ≡ length F.clauses + 1
  pub least : (p : ℕ) → IsTrue (all_of F p) → 0 < slice_index numbers p
  pub most : (p : ℕ) → slice_index numbers p ≤ count
  pub same : (p q v : ℕ) → IsTrue (all_of F p) → IsTrue (all_of F q) → IsTrue (mentions (clause_at F p) v)
      → IsTrue (mentions (clause_at F q) v) → slice_index numbers p ≡ slice_index numbers q
