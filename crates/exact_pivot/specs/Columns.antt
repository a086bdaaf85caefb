-- The first column of a row whose number passes a test, from the entries of the row that are not 0.
use Rattle.std.specs.Prelude.{ℕ, Bool, if◌then◌else◌, nat_le, List, find, ℤ, Option, Some, None, option_map}
use Rattle.exact_rows.specs.declared.sparse.Entry.{Entry}

-- the column of the first entry that passes
abbrev pub first_column : (ℤ → Bool) → List Entry → Option ℕ
first_column test es = option_map (λ (e : Entry). e.column) (find (λ (e : Entry). test e.value) es)

-- a column that is not behind the last one
abbrev pub column_within : ℕ → Option ℕ → Option ℕ
column_within last None = None
column_within last (Some k) = if nat_le k last then Some k else None
