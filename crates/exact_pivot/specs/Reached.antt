-- What is reached from the starting rows by the pivots of the linear run, and what holds of all rows that are.
use Rattle.std.specs.Prelude.{◌≡◌, ◌≢◌, ℕ, ◌+◌, ◌<◌, ◌≤◌, List, [], ◌∷◌, ◌++◌, map, length, replicate, ℤ, pos, ◌-ℤ◌, ◌*ℤ◌, ◌<ℤ◌, ◌≤ℤ◌, ◌⊎◌, IsTrue, IsFalse, Some}
use Rattle.lk_model.specs.Lists.{up_to, sum_of}
use Rattle.lk_model.specs.Formulas.Formula.{Cnf}
use Rattle.lk_model.specs.Linear.Rows.{TableauRows, entry, row_at, m_of, r_of, artificial, unit_column, right_column, start_of}
use Rattle.lk_model.specs.Linear.Pivot.{in_first_phase, turned, pivoted}
use Rattle.lk_model.specs.Linear.Phases.{PivotOn, next, entering, leaving}

-- the rows for the positions S, and those after a pivot that the run makes
pub data IsReached (F : Cnf) (S : List ℕ) : TableauRows → Type 0 where
  AtStart : IsReached F S (start_of F S)
  ByPivot : (t : TableauRows) (i k : ℕ) → IsReached F S t → next t ≡ PivotOn i k → IsReached F S (pivoted t i k)

-- the number of one of the rows, which count from 1
abbrev pub IsRowOf : TableauRows → ℕ → Type 0
IsRowOf t i = (0 < i) × (i ≤ r_of t)

-- 1 in each artificial column and in that of the cost unit, else 0
abbrev pub artificial_cost : TableauRows → List ℤ
artificial_cost t = replicate (m_of t) (pos 0) ++ replicate (r_of t + 1) (pos 1) ++ pos 0 ∷ []

-- a row of numbers, by its columns
abbrev pub Columns : Type 0
Columns = ℕ → ℤ

-- numbers at columns, summed against a row
abbrev pub total : List (ℕ × ℤ) → Columns → ℤ
total us row = sum_of (map (λ (k, u). row k *ℤ u) us)

-- they solve the rows, with 0 as the sum of each
abbrev pub Solves : List (ℕ × ℤ) → TableauRows → Type 0
Solves us t = (i : ℕ) → IsRowOf t i → total us (entry (row_at t i).entries) ≡ pos 0

-- a row is the sum of the starting rows, each times what the row has in its artificial column
abbrev pub IsCombined : TableauRows → Columns → Type 0
IsCombined start row = (k : ℕ) → row k ≡ sum_of (map (λ j. row (artificial start j) *ℤ entry (row_at start j).entries k) (up_to (r_of start)))

-- what holds of rows that are reached from the starting ones
pub record ReachedRows (start t : TableauRows) : Type 0 where
  -- the positions, the variables and the signs are those of the start
  pub positions : t.positions ≡ start.positions
  pub vars : t.vars ≡ start.vars
  pub signs : t.signs ≡ start.signs
  -- there is a row for each variable
  pub rows : length t.rows ≡ r_of t
  -- each row and the cost row have a number for each column
  pub widths : (i : ℕ) → IsRowOf t i → length (row_at t i).entries ≡ right_column t
  pub cost_width : length t.cost ≡ right_column t
  -- a basic column is that of a clause or an artificial one
  pub basic_least : (i : ℕ) → IsRowOf t i → 0 < (row_at t i).basic
  pub basic_most : (i : ℕ) → IsRowOf t i → (row_at t i).basic ≤ m_of t + r_of t
  -- it is positive in its own row
  pub basic_positive : (i : ℕ) → IsRowOf t i → pos 0 <ℤ entry (row_at t i).entries (row_at t i).basic
  -- it is 0 in each other row
  pub basic_apart : (i j : ℕ) → IsRowOf t i → IsRowOf t j → j ≢ i → entry (row_at t j).entries (row_at t i).basic ≡ pos 0
  -- in the first phase it is 0 in the cost row
  pub basic_cost : IsTrue (in_first_phase t) → (i : ℕ) → IsRowOf t i → entry t.cost (row_at t i).basic ≡ pos 0
  -- in any phase it is 0 there, or the right side of its row is 0
  pub basic_rest : (i : ℕ) → IsRowOf t i → (entry t.cost (row_at t i).basic ≡ pos 0) ⊎ (entry (row_at t i).entries (right_column t) ≡ pos 0)
  -- no right side is negative
  pub right_least : (i : ℕ) → IsRowOf t i → pos 0 ≤ℤ entry (row_at t i).entries (right_column t)
  -- the cost unit is positive in the cost row
  pub unit_positive : pos 0 <ℤ entry t.cost (unit_column t)
  -- it is 0 in each row
  pub unit_apart : (i : ℕ) → IsRowOf t i → entry (row_at t i).entries (unit_column t) ≡ pos 0
  -- each row combines the starting ones
  pub combined : (i : ℕ) → IsRowOf t i → IsCombined start (entry (row_at t i).entries)
  -- the cost row, less its unit times the artificial cost, combines the starting rows
  pub cost_combined : IsCombined start (λ k. entry t.cost k -ℤ entry t.cost (unit_column t) *ℤ entry (artificial_cost t) k)
  -- what solves the starting rows solves these
  pub solves : (us : List (ℕ × ℤ)) → Solves us start → Solves us t
  -- what solves these solves the starting ones
  pub solves_start : (us : List (ℕ × ℤ)) → Solves us t → Solves us start

abbrev pub ReachedRowsLaw : Type 0
ReachedRowsLaw = (F : Cnf) (S : List ℕ) (t : TableauRows) → IsReached F S t → ReachedRows (start_of F S) t

-- the row and the column of a pivot: one of the rows, with a positive entry once it is turned
pub record IsPivot (t : TableauRows) (i k : ℕ) : Type 0 where
  pub row : IsRowOf t i
  pub column : (0 < k) × (k ≤ m_of t + r_of t)
  pub positive : pos 0 <ℤ entry (turned t i k) k

-- on what a run pivots
pub record LeavingLaw : Type 0 where
  -- in the first phase some row leaves for the column that enters
  pub leaves : (F : Cnf) (S : List ℕ) (t : TableauRows) (k : ℕ) → IsReached F S t → IsTrue (in_first_phase t) → entering t ≡ Some k
      → (i : ℕ) × (leaving t k ≡ Some i)
  -- in the second phase a row whose basic column is artificial has 0 on its right side
  pub stands : (F : Cnf) (S : List ℕ) (t : TableauRows) (i : ℕ) → IsReached F S t → IsFalse (in_first_phase t) → IsRowOf t i → m_of t < (row_at t i).basic
      → entry (row_at t i).entries (right_column t) ≡ pos 0
  -- each pivot of a run is on a row, with a positive entry
  pub pivots : (F : Cnf) (S : List ℕ) (t : TableauRows) (i k : ℕ) → IsReached F S t → next t ≡ PivotOn i k → IsPivot t i k
