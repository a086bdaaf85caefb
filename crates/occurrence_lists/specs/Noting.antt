-- Clause by clause: how many contain each literal, and which.
use Rattle.std.specs.Prelude.{◌≡◌, ◌<◌, ℕ, ◌+◌, ◌*◌, if◌then◌else◌, List, [], ◌∷◌, ◌++◌, length, sum, sum_by, take, ℤ, IsTrue, slice_index, slice_index_or}
use Rattle.lk_model.specs.Formulas.Formula.{Cnf}
use Rattle.occurrence_lists.specs.Occurrences.{has_rank, ranked}
use Rattle.occurrence_lists.specs.Parts.{Filled}

-- one more at each literal of the clause
pub record CountsClause (c : List ℤ) (before after : List ℕ) : Type 0 where
  pub size : length after ≡ length before
  pub told : (k : ℕ) → slice_index after k ≡ slice_index before k + (if has_rank c k then 1 else 0)
  pub total : sum after ≡ sum before + length c

-- the numbers of the first clauses that contain each literal
pub record AreCounts (F : Cnf) (m : ℕ) (counts : List ℕ) : Type 0 where
  pub size : length counts ≡ 2 * F.vars + 2
  pub told : (k : ℕ) → slice_index counts k ≡ length (ranked F m k)
  pub total : sum counts ≡ sum_by length (take m F.clauses)

-- one more position at each literal of the clause
pub record NotesClause (c : List ℤ) (p : ℕ) (before after : List (List ℕ)) : Type 0 where
  pub size : length after ≡ length before
  pub told : (k : ℕ) → slice_index_or after k [] ≡ slice_index_or before k [] ++ (if has_rank c k then p ∷ [] else [])

-- the positions of the first clauses that contain each literal
pub record AreNoted (F : Cnf) (m : ℕ) (lists : List (List ℕ)) : Type 0 where
  pub size : length lists ≡ 2 * F.vars + 2
  pub told : (k : ℕ) → slice_index_or lists k [] ≡ ranked F m k

-- no list of a literal of the clause has its size yet
abbrev pub HaveRoom : List ℤ → Filled → Type 0
HaveRoom c t = (k : ℕ) → IsTrue (has_rank c k) → (k < length t.lists) × (length (slice_index_or t.lists k []) < slice_index t.sizes k)
