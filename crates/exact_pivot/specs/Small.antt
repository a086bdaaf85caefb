-- Rows of small numbers, and the cost row that begins with them.
use Rattle.std.specs.Prelude.{ℕ, ◌+◌, ◌≤◌, List, [], ◌∷◌, ◌++◌, map, length, replicate, ℤ, pos, unsigned_abs}
use Rattle.std.specs.List.{All}
use Rattle.lk_model.specs.Lists.{up_to}
use Rattle.exact_rows.specs.declared.sparse.Entry.{Entry}
use Rattle.lk_model.specs.Linear.Rows.{Row, less_column}

abbrev pub AreSmall : List ℤ → Type 0
AreSmall xs = All (λ x. unsigned_abs x ≤ 4_000_000) xs

-- entries that are 1 or -1, of a row of the clauses
pub record AreSmallEntries (es : List Entry) : Type 0 where
  pub units : All (λ (e : Entry). unsigned_abs e.value ≤ 1) es
  pub few : length es ≤ 4_000_000

-- the cost row of m clauses and these rows
abbrev pub cost_of : ℕ → List Row → List ℤ
cost_of m rows = map (less_column rows) (up_to m) ++ replicate (length rows) (pos 0) ++ pos 1 ∷ less_column rows (m + length rows + 2) ∷ []
