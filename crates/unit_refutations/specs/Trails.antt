-- What came to be true, and what is true of it.
use Rattle.std.specs.Prelude.{◌≡◌, ◌≢◌, ℕ, ◌+◌, ◌*◌, ◌<◌, Bool, List, length, ℤ, Option, Some, None, is_some, sum_by, slice_index, slice_index_or, IsTrue}
use Rattle.lk_model.specs.Formulas.Literal.{complement, contains, is_literal, rank_of}
use Rattle.lk_model.specs.Formulas.Formula.{Cnf, clause_at}
use Rattle.lk_model.specs.Formulas.Crossed.{crossed_out}
use Rattle.lk_model.specs.Held.VariableSets.{is_in}

-- the literals in the order in which they came, the position of the clause that forced each, and by the ranks of literals the
-- places at which those stand that are true
pub record Came : Type 0 where
  pub lits : List ℤ
  pub reasons : List ℕ
  pub places : List (Option ℕ)

-- the place at which a literal stands, where it is true
abbrev pub place_of : Came → ℤ → Option ℕ
place_of t l = slice_index_or t.places (rank_of l) None

abbrev pub is_true_in : Came → ℤ → Bool
is_true_in t l = is_some (place_of t l)

abbrev pub is_false_in : Came → ℤ → Bool
is_false_in t l = is_some (place_of t (complement l))

-- how many literals are not true
abbrev pub unset_one : Option ℕ → ℕ
unset_one None = 1
unset_one (Some place) = 0

abbrev pub unset : Came → ℕ
unset t = sum_by unset_one t.places

-- the literal is true, and came before a place
pub record CameBefore (t : Came) (place : ℕ) (l : ℤ) : Type 0 where
  pub at : ℕ
  pub stands : place_of t l ≡ Some at
  pub before : at < place

-- The crossed clause at a position of a set contains the literal, and the complement of each other one came before the
-- place.
pub record IsReason (F : Cnf) (inside : ℕ → Bool) (blocked : List Bool) (t : Came) (place : ℕ) (l : ℤ) (position : ℕ) : Type 0 where
  pub within : IsTrue (inside position)
  pub holds : IsTrue (contains (crossed_out (is_in blocked) (clause_at F position)) l)
  pub others : (k : ℤ) → IsTrue (contains (crossed_out (is_in blocked) (clause_at F position)) k) → k ≢ l → CameBefore t place (complement k)

-- the literal stands at the place, where the clause at a position of the set forced it, and its complement is not true
pub record IsForcedAt (F : Cnf) (inside : ℕ → Bool) (blocked : List Bool) (t : Came) (l : ℤ) (place : ℕ) : Type 0 where
  pub came : place < length t.lits
  pub lit : (d : ℤ) → slice_index_or t.lits place d ≡ l
  pub forced : IsReason F inside blocked t place l (slice_index t.reasons place)
  pub one_sign : place_of t (complement l) ≡ None

-- each literal that is true was forced
pub record IsReasoned (F : Cnf) (inside : ℕ → Bool) (blocked : List Bool) (t : Came) : Type 0 where
  pub size : length t.places ≡ 2 * F.vars + 2
  pub same : length t.reasons ≡ length t.lits
  pub each : (l : ℤ) (place : ℕ) → IsTrue (is_literal F.vars l) → place_of t l ≡ Some place → IsForcedAt F inside blocked t l place
