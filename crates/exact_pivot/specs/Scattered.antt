-- The entries of a variable's row in the columns of clauses, which come one after another, and those of its whole row.
use Rattle.std.specs.Prelude.{◌≡◌, ℕ, ◌+◌, ◌-◌, ◌<◌, if◌then◌else◌, List, [], ◌∷◌, ◌++◌, map, length, ℤ, pos, negsuc, neg_ℤ, int_lt, ◌*ℤ◌, slice_index_or}
use Rattle.lk_model.specs.Lists.{is_zero, sum_of}
use Rattle.lk_model.specs.Formulas.Literal.{is_positive}
use Rattle.lk_model.specs.Formulas.Formula.{Cnf, clause_at}
use Rattle.lk_model.specs.Formulas.Balance.{incidence}
use Rattle.exact_rows.specs.declared.sparse.Entry.{Entry}
use Rattle.exact_rows.specs.Sparse.{entries_of}

-- the entries with a number in a column behind all of them, if it is not 0
abbrev pub with_number : List Entry → ℕ → ℤ → List Entry
with_number es k x = if is_zero x then es else es ++ record { column = k; value = x } ∷ []

-- the column of the last entry, or 0 if there is none
abbrev pub last_column : List Entry → ℕ
last_column es = (slice_index_or es (length es - 1) (record { column = 0; value = pos 0 })).column

-- 1 for a variable, -1 for its complement
abbrev pub unit_of : ℤ → ℤ
unit_of l = if is_positive l then pos 1 else negsuc 0

-- the entries of a variable in the columns of the clauses at these positions
abbrev pub entries_in : Cnf → List ℕ → ℕ → List Entry
entries_in F ps v = entries_of (map (λ p. incidence (clause_at F p) v) ps)

-- a table with these entries for each variable, at its number
pub record AreIncidences (F : Cnf) (ps : List ℕ) (rows : List (List Entry)) : Type 0 where
  pub size : length rows ≡ F.vars + 1
  pub each : (v : ℕ) → v < length rows → slice_index_or rows v [] ≡ entries_in F ps v

-- with the numbers of a clause in a column behind all of them
pub record AddsClause (clause : List ℤ) (k : ℕ) (before after : List (List Entry)) : Type 0 where
  pub size : length after ≡ length before
  pub each : (v : ℕ) → v < length before → slice_index_or after v [] ≡ with_number (slice_index_or before v []) k (incidence clause v)

-- what entries lack to 0, and the sign that makes it at least 0
abbrev pub lack_of : List Entry → ℤ
lack_of es = neg_ℤ (sum_of (map (λ (e : Entry). e.value) es))

abbrev pub sign_at : ℤ → ℤ
sign_at lack = if int_lt lack (pos 0) then negsuc 0 else pos 1

-- the entries times the sign, 1 in an artificial column, and what they lack times the sign on the right side
abbrev pub times_sign : ℤ → Entry → Entry
times_sign sign e = record e { value = sign *ℤ e.value }

abbrev pub start_entries : List Entry → ℕ → ℕ → List Entry
start_entries es artificial right = let sign = sign_at (lack_of es) in
    with_number (map (times_sign sign) es ++ record { column = artificial; value = pos 1 } ∷ []) right (sign *ℤ lack_of es)
