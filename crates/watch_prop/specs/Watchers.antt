-- For each literal its watchers: the clauses that watch it, by their places in the list of clauses, with their blockers. And how
-- many clauses have it.
use Rattle.std.specs.Prelude.{ℕ, ◌+◌, List, [], ◌∷◌, ◌++◌, ℤ, map, slice_index_or, slice_set}
use Rattle.lk_model.specs.Formulas.Literal.{rank_of}
use Rattle.watch_prop.specs.declared.watcher_lists.Watcher.{Watcher}

pub record Watchers : Type 0 where
  pub lists : List (List ℕ)
  pub rows : List (List Watcher)
  pub counts : List ℕ

-- the watchers of a literal
abbrev pub watchers : List (List ℕ) → ℤ → List ℕ
watchers lists l = slice_index_or lists (rank_of l) []

-- the places of watchers
abbrev pub places : List Watcher → List ℕ
places row = map (λ (w : Watcher). w.place) row

-- the places of the watchers in each row
abbrev pub all_places : List (List Watcher) → List (List ℕ)
all_places rows = map places rows

-- the watchers of a literal with their blockers
abbrev pub row_of : List (List Watcher) → ℤ → List Watcher
row_of rows l = slice_index_or rows (rank_of l) []

-- how many clauses have it
abbrev pub count_of : List ℕ → ℤ → ℕ
count_of counts l = slice_index_or counts (rank_of l) 0

-- with one watcher more of a literal
abbrev pub with_watcher : List (List ℕ) → ℤ → ℕ → List (List ℕ)
with_watcher lists l place = slice_set lists (rank_of l) (watchers lists l ++ place ∷ [])

abbrev pub with_row : List (List Watcher) → ℤ → Watcher → List (List Watcher)
with_row rows l w = slice_set rows (rank_of l) (row_of rows l ++ w ∷ [])

-- with one clause more that has these literals
abbrev pub with_counted : List ℕ → List ℤ → List ℕ
with_counted counts [] = counts
with_counted counts (l ∷ c) = with_counted (slice_set counts (rank_of l) (count_of counts l + 1)) c
