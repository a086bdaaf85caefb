-- Entries of two rows that are met column by column, and entries that are divided.
use Rattle.std.specs.Prelude.{ℕ, ◌==◌, if◌then◌else◌, List, [], ◌∷◌, map, ℤ, pos, int_div, Option, Some, None, min}
use Rattle.lk_model.specs.Linear.Arithmetic.{content}
use Rattle.exact_rows.specs.declared.sparse.Entry.{Entry}

-- the least column in which one of the rows has an entry
abbrev pub next_column : List Entry → List Entry → Option ℕ
next_column [] [] = None
next_column [] (y ∷ ys) = Some y.column
next_column (x ∷ xs) [] = Some x.column
next_column (x ∷ xs) (y ∷ ys) = Some (min x.column y.column)

-- the number in a column, if no entry is in an earlier one, and the entries after it
abbrev pub first_number : List Entry → ℕ → ℤ
first_number [] k = pos 0
first_number (e ∷ es) k = if e.column == k then e.value else pos 0

abbrev pub past : List Entry → ℕ → List Entry
past [] k = []
past (e ∷ es) k = if e.column == k then es else e ∷ es

abbrev pub content_of : List Entry → ℤ
content_of es = content (map (λ (e : Entry). e.value) es)

abbrev pub divided : ℤ → Entry → Entry
divided g e = record e { value = int_div e.value g }
