-- Clauses that come and go. Each has a number for good: those of a formula 1 to M, added ones M + 1 and so on.
use Rattle.std.specs.Prelude.{ℕ, zero, suc, ◌+◌, ◌==◌, not, slice_index, List, [], ◌∷◌, ◌++◌, length, filter, ℤ}
use Rattle.lk_model.specs.Formulas.Formula.{Cnf, with_clause, positions_of, clauses_at}

-- All clauses that were ever held, each at the position that is its number, and the numbers of the live ones, ascending.
pub record LiveClauses : Type 0 where
  pub held : Cnf
  pub live : List ℕ

-- at first all clauses of a formula are live
abbrev pub live_of : Cnf → LiveClauses
live_of F = record { held = F; live = positions_of F }

-- one more clause, which is live
abbrev pub with_added : LiveClauses → List ℤ → LiveClauses
with_added s c = record { held = with_clause s.held c; live = s.live ++ (length s.held.clauses + 1) ∷ [] }

-- the clause of a number is not live any more
abbrev pub with_removed : LiveClauses → ℕ → LiveClauses
with_removed s k = record { held = s.held; live = filter (λ n. not (n == k)) s.live }

-- the formula of the live clauses, in the order of their numbers
abbrev pub live_formula : LiveClauses → Cnf
live_formula s = clauses_at s.held s.live

-- the number of the live clause at a position of their formula
abbrev pub number_at : List ℕ → ℕ → ℕ
number_at live zero = 0
number_at live (suc k) = slice_index live k
