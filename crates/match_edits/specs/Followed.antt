-- A matching that follows the live clauses through edits.
use Rattle.std.specs.Prelude.{ℕ, ◌-◌, List, [], ◌∷◌, ◌++◌, slice_index, slice_set, IsTrue}
use Rattle.std.specs.List.{remove}
use Rattle.lk_model.specs.Formulas.Formula.{Cnf}
use Rattle.lk_model.specs.Formulas.Lean.{are_positions}
use Rattle.bipartite_match.specs.declared.matching.Matching.{Matching}
use Rattle.bipartite_match.specs.Matchings.{IsMaximum, IsReady}

-- how the code holds live clauses: their numbers rise, and the matching of them is maximum and ready for a search
pub record IsLive (held : Cnf) (live : List ℕ) (m : Matching) : Type 0 where
  pub positions : IsTrue (are_positions held live)
  pub maximum : IsMaximum held live m
  pub ready : IsReady held live m

-- THE MATCHING BEFORE A SEARCH

-- the clause of a number has come at the end of the part, and has no variable
abbrev pub with_new : Matching → ℕ → Matching
with_new m number = record m { of_clause = m.of_clause ++ 0 ∷ []; unmatched = m.unmatched ++ number ∷ [] }

-- the clause at index i of the part has gone, which had no variable; it is the one at index j of those without
abbrev pub without_unmatched : Matching → ℕ → ℕ → Matching
without_unmatched m i j = record m { of_clause = remove m.of_clause i; unmatched = remove m.unmatched j }

-- the clause at index i of the part has gone, and its variable is free
abbrev pub without_matched : Matching → ℕ → Matching
without_matched m i = record m { of_clause = remove m.of_clause i; of_var = slice_set m.of_var (slice_index m.of_clause i - 1) 0 }
