-- A search over the clauses of a formula and the positions that mention a variable.
use Rattle.std.specs.Prelude.{◌≡◌, ◌≢◌, ℕ, ◌+◌, ◌-◌, ◌<◌, ◌≤◌, ◌==◌, ◌⊎◌, cond, List, [], ◌∷◌, ◌++◌, length, slice_index, slice_index_or, slice_set, map, filter, replicate, ℤ, IsTrue, true}
use Rattle.lk_model.specs.Lists.{among, rises_within, up_to}
use Rattle.lk_model.specs.Formulas.Literal.{variable, mentions}
use Rattle.lk_model.specs.Formulas.Formula.{Cnf, clause_at}
use Rattle.lk_model.specs.Formulas.Lean.{all_of, are_positions}
use Rattle.lk_model.specs.Formulas.Parts.{share_variable, InOnePart}
use Rattle.par_parts.specs.Positions.{positions_of_variable}
use Rattle.par_parts.specs.declared.search.Search.{Search}

-- what a search knows
pub record Found : Type 0 where
  -- for each position the number of its part, or 0
  pub labels : List ℕ
  -- for each variable the number of the part of the clauses that mention it, or 0 where it was not passed
  pub owners : List ℕ
  -- the positions that have a number and were not passed
  pub pending : List ℕ
  -- for each part its least position
  pub roots : List ℕ

abbrev pub found_of : Search → Found
found_of s = record { labels = s.labels.items; owners = s.owners.items; pending = s.pending.items; roots = s.roots.items }

-- a search that has found nothing
abbrev pub none_found : ℕ → ℕ → Found
none_found clauses vars = record { labels = replicate (clauses + 1) 0; owners = replicate (vars + 1) 0; pending = []; roots = [] }

-- a position that has no number gets this one
abbrev pub labelled : ℕ → ℕ → Found → Found
labelled part p s = cond (slice_index s.labels p == 0) (record s { labels = slice_set s.labels p part; pending = s.pending ++ p ∷ [] }) s

-- the positions of a list that have no number get this one
abbrev pub all_labelled : ℕ → List ℕ → Found → Found
all_labelled part [] s = s
all_labelled part (p ∷ ps) s = all_labelled part ps (labelled part p s)

-- a variable that was not passed is, and the positions that mention it get the number
abbrev pub variable_passed : ℕ → List (List ℕ) → ℕ → Found → Found
variable_passed part lists v s =
    let next = all_labelled part (positions_of_variable lists v) s in
    cond (slice_index s.owners v == 0) (record next { owners = slice_set next.owners v part }) s

-- all variables of a clause are passed
abbrev pub clause_passed : ℕ → List (List ℕ) → List ℤ → Found → Found
clause_passed part lists [] s = s
clause_passed part lists (l ∷ c) s = clause_passed part lists c (variable_passed part lists (variable l) s)

-- a new part begins with a position
abbrev pub part_begun : ℕ → Found → Found
part_begun p s = record s { roots = s.roots ++ p ∷ []; labels = slice_set s.labels p (length s.roots + 1); pending = p ∷ [] }

-- A search whose last part is still spread: what has a number was passed or is in hand, as the positions that wait are.
pub record IsSearching (F : Cnf) (s : Found) (hand : List ℕ) : Type 0 where
  pub long : length s.labels ≡ length F.clauses + 1
  pub vars : length s.owners ≡ F.vars + 1
  pub zeroth : slice_index_or s.labels 0 0 ≡ 0
  pub numbers : (p : ℕ) → slice_index s.labels p ≤ length s.roots
  -- a chain leads to each position from the least one of its part
  pub linked : (p : ℕ) → slice_index s.labels p ≢ 0 → InOnePart F (slice_index_or s.roots (slice_index s.labels p - 1) 0) p
  pub least : (p : ℕ) → slice_index s.labels p ≢ 0 → slice_index_or s.roots (slice_index s.labels p - 1) 0 ≤ p
  -- where a variable was passed, all clauses that mention it have its number
  pub owned : (v p : ℕ) → slice_index_or s.owners v 0 ≢ 0 → mentions (clause_at F p) v ≡ true → slice_index s.labels p ≡ slice_index_or s.owners v 0
  -- where a position with a number is not at hand, its variables were passed with this number
  pub passed : (v p : ℕ) → slice_index s.labels p ≢ 0 → mentions (clause_at F p) v ≡ true → (among hand p ≡ true) ⊎ (slice_index_or s.owners v 0 ≡ slice_index s.labels p)
  pub now : (p : ℕ) → among hand p ≡ true → slice_index s.labels p ≡ length s.roots
  pub before : (p : ℕ) → 0 < p → p < slice_index_or s.roots (length s.roots - 1) 0 → slice_index s.labels p ≢ 0
  pub started : (k : ℕ) → k < length s.roots → slice_index_or s.labels (slice_index_or s.roots k 0) 0 ≡ k + 1
  pub rising : rises_within 0 (length F.clauses) s.roots ≡ true

-- a number that was given stays
abbrev pub Keeps : Found → Found → Type 0
Keeps s t = (p : ℕ) → slice_index s.labels p ≢ 0 → slice_index t.labels p ≢ 0

-- what a search that passed all that waited leaves
pub record IsSpread (F : Cnf) (s t : Found) : Type 0 where
  pub searching : IsSearching F t []
  pub none : t.pending ≡ []
  pub roots : t.roots ≡ s.roots
  pub keeps : Keeps s t

-- nothing waits, each position below p has a number, and all parts so far begin below p
pub record IsUpTo (F : Cnf) (s : Found) (p : ℕ) : Type 0 where
  pub searching : IsSearching F s []
  pub none : s.pending ≡ []
  pub each : (q : ℕ) → 0 < q → q < p → slice_index s.labels q ≢ 0
  pub below : (k : ℕ) → k < length s.roots → slice_index s.roots k < p

-- numbers of parts for the positions, and the least position of each part
pub record AreLabels (F : Cnf) (labels roots : List ℕ) : Type 0 where
  pub long : length labels ≡ length F.clauses + 1
  pub first : slice_index labels 0 ≡ 0
  pub each : (p : ℕ) → IsTrue (all_of F p) → slice_index labels p ≢ 0
  pub numbers : (p : ℕ) → slice_index labels p ≤ length roots
  -- a chain leads to each position from the least one of its part
  pub linked : (p : ℕ) → slice_index labels p ≢ 0 → InOnePart F (slice_index roots (slice_index labels p - 1)) p
  pub least : (p : ℕ) → slice_index labels p ≢ 0 → slice_index roots (slice_index labels p - 1) ≤ p
  -- neighbours have one number
  pub closed : (p q : ℕ) → slice_index labels p ≢ 0 → IsTrue (share_variable (clause_at F p) (clause_at F q)) → slice_index labels q ≡ slice_index labels p
  pub started : (k : ℕ) → k < length roots → slice_index labels (slice_index roots k) ≡ k + 1
  pub rising : IsTrue (are_positions F roots)

-- the positions with a number, ascending
abbrev pub positions_with : List ℕ → ℕ → List ℕ
positions_with labels k = filter (λ p. slice_index labels p == k) (up_to (length labels - 1))

-- the positions with each number up to `count`
abbrev pub gathered : List ℕ → ℕ → List (List ℕ)
gathered labels count = map (positions_with labels) (up_to count)
