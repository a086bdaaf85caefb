-- Rows given by their entries that are not 0, each with its column, counted from 1.
use Rattle.std.specs.Prelude.{◌≡◌, ⊤, ℕ, ◌==◌, if◌then◌else◌, List, [], ◌∷◌, map, filter, zip, length, ℤ, pos, neg_ℤ, IsTrue, Some, None, Result, Ok, Err}
use Rattle.std.specs.List.{All}
use Rattle.lk_model.specs.Limits.{is_in_range}
use Rattle.lk_model.specs.Lists.{up_to, is_nonzero, rises_within}
use Rattle.lk_model.specs.Linear.Arithmetic.{first_wide}
use Rattle.lk_model.specs.declared.wide.Wide.{Wide as Operands}
use Rattle.exact_rows.specs.declared.sparse.Entry.{Entry}
use Rattle.exact_rows.specs.declared.sparse.SparseStop.{SparseStop}
use Rattle.exact_rows.specs.declared.sparse.SparseStop.TheVariants.{Wide, OutOfMemory}

-- the number in a column: that of the entry there, or 0
abbrev pub value_in_column : List Entry → ℕ → ℤ
value_in_column [] k = pos 0
value_in_column (e ∷ es) k = if e.column == k then e.value else value_in_column es k

-- the numbers in the columns from 1 to n
abbrev pub row_of : ℕ → List Entry → List ℤ
row_of n es = map (value_in_column es) (up_to n)

-- the numbers of a row that are not 0, with their columns
abbrev pub entries_of : List ℤ → List Entry
entries_of row = map (λ (k, x). record { column = k; value = x }) (filter (λ (k, x). is_nonzero x) (zip (up_to (length row)) row))

abbrev pub IsEntry : Entry → Type 0
IsEntry e = IsTrue (is_nonzero e.value) × IsTrue (is_in_range e.value)

-- entries of a row with n columns: their columns rise, and no number is 0
pub record AreEntries (n : ℕ) (es : List Entry) : Type 0 where
  pub rise : IsTrue (rises_within 0 n (map (λ (e : Entry). e.column) es))
  pub each : All IsEntry es

-- the entry times -1
abbrev pub negated : Entry → Entry
negated e = record e { value = neg_ℤ e.value }

-- why a call stops that makes these results: the first one that is out of range, or that memory ran out, which may
-- happen at any time
abbrev pub IsStop : List Operands → SparseStop → Type 0
IsStop results (Wide w) = first_wide results ≡ Some w
IsStop results OutOfMemory = ⊤

-- how such a call ends: well only if all of them are in range
abbrev pub EndsBy : {X : Type 0} → List Operands → Result X SparseStop → Type 0
EndsBy results (Ok x) = first_wide results ≡ None
EndsBy results (Err stop) = IsStop results stop
