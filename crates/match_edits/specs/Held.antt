-- How the code holds live clauses: by the positions of the variables and the clauses without a variable. It keeps no list of
-- the live ones, nor of their variables.
use Rattle.std.specs.Prelude.{ℕ, ◌-◌, ◌||◌, Bool, List, [], ◌∷◌, ◌++◌, filter, slice_set}
use Rattle.std.specs.List.{remove}
use Rattle.lk_model.specs.Lists.{among}
use Rattle.lk_model.specs.Formulas.Formula.{Cnf, positions_of}
use Rattle.bipartite_match.specs.declared.pairs.Pairs.{Pairs}
use Rattle.bipartite_match.specs.Behind.{matching_of}
use Rattle.match_edits.specs.Followed.{IsLive}

-- a clause is live that has a variable, or is one of those without
abbrev pub live_in : Cnf → Pairs → List ℕ
live_in held p = filter (λ n. among p.unmatched n || among p.of_var n) (positions_of held)

-- with some variables of its clauses they are a matching of the part, maximum and ready for a search
abbrev pub IsLiveBy : Cnf → List ℕ → Pairs → List Bool → Type 0
IsLiveBy held part p marks = (own : List ℕ) × IsLive held part (matching_of own p marks)

abbrev pub IsHeld : Cnf → Pairs → List Bool → Type 0
IsHeld held p marks = IsLiveBy held (live_in held p) p marks

-- PAIRS AFTER AN EDIT, BEFORE A SEARCH

-- one more clause has no variable
abbrev pub with_bare : Pairs → ℕ → Pairs
with_bare p number = record p { unmatched = p.unmatched ++ number ∷ [] }

-- the one at index j of those without a variable has gone
abbrev pub without_bare : Pairs → ℕ → Pairs
without_bare p j = record p { unmatched = remove p.unmatched j }

-- no clause has the variable any more
abbrev pub with_free : Pairs → ℕ → Pairs
with_free p v = record p { of_var = slice_set p.of_var (v - 1) 0 }
