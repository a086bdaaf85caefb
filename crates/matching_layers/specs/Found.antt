-- What a search by layers has found so far.
use Rattle.std.specs.Prelude.{ℕ, ◌+◌, ◌-◌, if◌then◌else◌, ◌==◌, List, [], ◌∷◌, ◌++◌, length, slice_index, slice_set, replicate, map, filter, zip}
use Rattle.std.specs.List.{range_with_len}
use Rattle.matching_layers.specs.declared.search.Search.{Search}

-- For each variable one more than the index of the clause that reached it, or 0. For each index the layer of its clause,
-- or 0 where it is not reached. The free variable at which the search ended and the layer of the clause that contains
-- it, or 0. The indices that are reached, in their order.
pub record Found : Type 0 where
  pub escape : List ℕ
  pub layer : List ℕ
  pub end : ℕ
  pub last : ℕ
  pub queue : List ℕ

-- the index of the clause that reached the variable
abbrev pub escape_of : Found → ℕ → ℕ
escape_of s v = slice_index s.escape (v - 1) - 1

-- HOW IT GOES ON

abbrev pub unmatched_of : List ℕ → List ℕ
unmatched_of of_clause = map (λ e. e.0) (filter (λ e. e.1 == 0) (zip (range_with_len 0 (length of_clause)) of_clause))

abbrev pub first_layers : List ℕ → List ℕ
first_layers of_clause = map (λ v. if v == 0 then 1 else 0) of_clause

-- at the start only the unmatched clauses are reached
abbrev pub started : List ℕ → ℕ → Found
started of_clause vars = record {
  escape = replicate vars 0;
  layer = first_layers of_clause;
  end = 0;
  last = 0;
  queue = unmatched_of of_clause;
}

-- the clause at index j is reached, in layer n
abbrev pub entered : ℕ → ℕ → Found → Found
entered j n s = record s { layer = slice_set s.layer j n; queue = s.queue ++ j ∷ [] }

-- the clause at index i reaches a variable: a free one ends the search, another one leads to its clause
abbrev pub visited : List ℕ → ℕ → ℕ → Found → Found
visited of_var i v s = let next = record s { escape = slice_set s.escape (v - 1) (i + 1) } in
    if slice_index s.escape (v - 1) == 0
    then (if slice_index of_var (v - 1) == 0 then record next { end = v; last = slice_index s.layer i } else entered (slice_index of_var (v - 1) - 1) (slice_index s.layer i + 1) next)
    else s

-- how the code holds it
abbrev pub found_of : Search → Found
found_of s = record { escape = s.escape.items; layer = s.layer.items; end = s.end; last = s.last; queue = s.queue.items }
