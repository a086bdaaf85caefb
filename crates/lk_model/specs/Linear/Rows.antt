-- The rows of the linear run, in whole numbers without bounds: a row for each variable, and the cost row.
use Rattle.std.specs.Prelude.{ℕ, ◌+◌, ◌-◌, ◌==◌, if◌then◌else◌, List, [], ◌∷◌, ◌++◌, map, length, zip, replicate, ℤ, pos, negsuc, neg_ℤ, ◌*ℤ◌, int_lt, slice_index_or}
use Rattle.lk_model.specs.Lists.{up_to, sum_of}
use Rattle.lk_model.specs.Formulas.Formula.{Cnf, clause_at, variables_at}
use Rattle.lk_model.specs.Formulas.Balance.{incidence}

-- a whole number for each column, and the basic column
pub record Row : Type 0 where
  pub entries : List ℤ
  pub basic : ℕ

-- The columns, counted from 1, are the clauses at the positions, an artificial one for each variable, the cost unit and
-- the right side. A sign that is -1 says that the starting row of the variable was multiplied by -1.
pub record TableauRows : Type 0 where
  pub positions : List ℕ
  pub vars : List ℕ
  pub signs : List ℤ
  pub rows : List Row
  pub cost : List ℤ

abbrev pub entry : List ℤ → ℕ → ℤ
entry row k = slice_index_or row (k - 1) (pos 0)

-- how many clauses, and how many variables
abbrev pub m_of : TableauRows → ℕ
m_of t = length t.positions

abbrev pub r_of : TableauRows → ℕ
r_of t = length t.vars

abbrev pub artificial : TableauRows → ℕ → ℕ
artificial t j = m_of t + j

abbrev pub unit_column : TableauRows → ℕ
unit_column t = m_of t + r_of t + 1

abbrev pub right_column : TableauRows → ℕ
right_column t = m_of t + r_of t + 2

abbrev pub row_at : TableauRows → ℕ → Row
row_at t i = slice_index_or t.rows (i - 1) (record { entries = []; basic = 0 })

abbrev pub sign_at : TableauRows → ℕ → ℤ
sign_at t j = entry t.signs j

-- THE ROWS FOR THE POSITIONS S

-- what the incidences of the variable lack to 0, and the sign that makes it at least 0
abbrev pub lack : Cnf → List ℕ → ℕ → ℤ
lack F S v = neg_ℤ (sum_of (map (λ p. incidence (clause_at F p) v) S))

abbrev pub sign_of : Cnf → List ℕ → ℕ → ℤ
sign_of F S v = if int_lt (lack F S v) (pos 0) then negsuc 0 else pos 1

-- the row of the j-th variable v: its sign times its incidences, 1 in its own artificial column, and the sign times what
-- it lacks
unfoldable pub start_row : Cnf → List ℕ → ℕ × ℕ → Row
start_row F S (j, v) = let e = sign_of F S v in record {
  entries = map (λ p. e *ℤ incidence (clause_at F p) v) S ++ map (λ w. if w == v then pos 1 else pos 0) (variables_at F S)
      ++ pos 0 ∷ (e *ℤ lack F S v) ∷ [];
  basic = length S + j;
}

abbrev pub start_rows : Cnf → List ℕ → List Row
start_rows F S = map (start_row F S) (zip (up_to (length (variables_at F S))) (variables_at F S))

-- less the sum of a column over the rows
abbrev pub less_column : List Row → ℕ → ℤ
less_column rows k = neg_ℤ (sum_of (map (λ (row : Row). entry row.entries k) rows))

unfoldable pub start_cost : Cnf → List ℕ → List ℤ
start_cost F S = map (less_column (start_rows F S)) (up_to (length S)) ++ replicate (length (variables_at F S)) (pos 0)
    ++ pos 1 ∷ less_column (start_rows F S) (length S + length (variables_at F S) + 2) ∷ []

unfoldable pub start_of : Cnf → List ℕ → TableauRows
start_of F S = record {
  positions = S;
  vars = variables_at F S;
  signs = map (sign_of F S) (variables_at F S);
  rows = start_rows F S;
  cost = start_cost F S;
}
