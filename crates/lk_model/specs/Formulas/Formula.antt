-- A formula in conjunctive normal form (DIMACS CNF 1993). Positions count from 1, and equal clauses at two positions are
-- two clauses.
use Rattle.std.specs.Prelude.{ℕ, zero, suc, ◌≤◌, Bool, ℤ, List, [], ◌∷◌, ◌++◌, ◌-◌, length, take, map, filter, sum_by, slice_index_or, find, Option}
use Rattle.std.specs.List.{list_any, list_all}
use Rattle.lk_model.specs.Lists.{up_to, is_empty}
use Rattle.lk_model.specs.Limits.{max_vars, max_clauses, max_literals}
use Rattle.lk_model.specs.Formulas.Literal.{is_clause, contains, mentions}

-- a number of variables and a list of clauses
pub record Cnf : Type 0 where
  pub vars : ℕ
  pub clauses : List (List ℤ)

abbrev pub is_formula : Cnf → Bool
is_formula F = list_all (is_clause F.vars) F.clauses

-- The clause at a position. If there is none, it is the empty clause, which nothing touches.
abbrev pub clause_at : Cnf → ℕ → List ℤ
clause_at F zero = []
clause_at F (suc k) = slice_index_or F.clauses k []

-- the positions 1 to the number of clauses
abbrev pub positions_of : Cnf → List ℕ
positions_of F = up_to (length F.clauses)

-- the variables 1 to n
abbrev pub variables_to : ℕ → List ℕ
variables_to n = up_to n

-- how many literals the clauses contain together
abbrev pub literal_count : Cnf → ℕ
literal_count F = sum_by length F.clauses

-- the limits on what is read and held
pub record IsWithinLimits (F : Cnf) : Type 0 where
  pub vars : F.vars ≤ max_vars
  pub clauses : length F.clauses ≤ max_clauses
  pub literals : literal_count F ≤ max_literals

-- the literal, or a literal of the variable, stands in a clause at one of the positions
abbrev pub literal_occurs : Cnf → List ℕ → ℤ → Bool
literal_occurs F ps l = list_any (λ p. contains (clause_at F p) l) ps

abbrev pub variable_occurs : Cnf → List ℕ → ℕ → Bool
variable_occurs F ps v = list_any (λ p. mentions (clause_at F p) v) ps

-- the variables that occur there
abbrev pub variables_at : Cnf → List ℕ → List ℕ
variables_at F ps = filter (variable_occurs F ps) (variables_to F.vars)

-- how many variables occur in the formula
abbrev pub occurring_count : Cnf → ℕ
occurring_count F = length (variables_at F (positions_of F))

-- the clauses at the positions, over the same variables
abbrev pub clauses_at : Cnf → List ℕ → Cnf
clauses_at F ps = record { vars = F.vars; clauses = map (clause_at F) ps }

-- the formula with one more clause at its end
abbrev pub with_clause : Cnf → List ℤ → Cnf
with_clause F c = record F { clauses = F.clauses ++ c ∷ [] }

-- the formula without its last clause
abbrev pub without_last : Cnf → Cnf
without_last F = record F { clauses = take (length F.clauses - 1) F.clauses }

-- the least position of an empty clause
abbrev pub first_empty : Cnf → Option ℕ
first_empty F = find (λ p. is_empty (clause_at F p)) (positions_of F)
