-- What the rows of a run are of the clauses: combinations of the incidences of the variables.
use Rattle.std.proofs.Common.{◌≡◌, ℕ, ◌+◌, ◌-◌, ◌<◌, ◌≤◌, List, map, length, get_or, ℤ, pos, ◌+ℤ◌, ◌-ℤ◌, ◌*ℤ◌, sym, ap, ◌∙◌, arith}
use Rattle.std.proofs.Math.IntN.{*ℤ-zero}
use Rattle.std.proofs.lemmas.Int.{ints}
use Rattle.lk_model.specs.Lists.{up_to, sum_of}
use Rattle.lk_model.specs.Formulas.Formula.{Cnf, clause_at, variables_at}
use Rattle.lk_model.specs.Formulas.Balance.{incidence}
use Rattle.lk_model.specs.Linear.Rows.{Row, TableauRows, entry, row_at, sign_of, lack, start_of}
use Rattle.exact_pivot.specs.Reached.{IsRowOf, artificial_cost, ReachedRows}
use Rattle.exact_pivot.proofs.Artificials.{art_first, art_middle, art_last}
use Rattle.exact_pivot.proofs.Solutions.{with_basic, total_with_basic, basic_solves}
use Rattle.exact_pivot.proofs.Starts.{range_same}
use Rattle.linear_run_laws.proofs.StartRows.{at, var_at, sign, clause_entry, right_entry}

-- the rows for the positions S with these rows and this cost row
abbrev pub rows_with : Cnf → List ℕ → List Row → List ℤ → TableauRows
rows_with F S rows cost = record { positions = S; vars = variables_at F S; signs = map (sign_of F S) (variables_at F S); rows = rows; cost = cost }

-- what is reached is of this form
pub shaped : (F : Cnf) (S : List ℕ) (t : TableauRows) → ReachedRows (start_of F S) t → t ≡ rows_with F S t.rows t.cost
unfolding start_of
shaped F S t r = λ i. record { positions = r.positions i; vars = r.vars i; signs = r.signs i; rows = t.rows; cost = t.cost }

-- the incidence of the j-th variable in the clause in column k
abbrev pub at_clause : Cnf → List ℕ → ℕ → ℕ → ℤ
at_clause F S j k = incidence (clause_at F (get_or S (k - 1) 0)) (var_at F S j)

module _ (F : Cnf) (S : List ℕ) (rows : List Row) (cost : List ℤ) where
  abbrev pub t : TableauRows
  t = rows_with F S rows cost

  abbrev pub m : ℕ
  m = length S

  abbrev pub n : ℕ
  n = length (variables_at F S)

  -- A COMBINED ROW

  -- a row in the column of a clause
  pub row_clause : ReachedRows (start_of F S) t → (i k : ℕ) → IsRowOf t i → 0 < k → k ≤ m
      → entry (row_at t i).entries k ≡ sum_of (map (λ j. entry (row_at t i).entries (m + j) *ℤ (sign F S j *ℤ at_clause F S j k)) (up_to n))
  unfolding start_of
  row_clause r i k h g l = r.combined i h k ∙ range_same (λ j. entry (row_at t i).entries (m + j) *ℤ entry (at F S j).entries k) _ 1 n
      (λ j a b. ap (λ z. entry (row_at t i).entries (m + j) *ℤ z) (clause_entry F S j k a (omega (arith, b)) g l))

  -- what the cost row has in an artificial column, less its unit
  abbrev pub difference : ℕ → ℤ
  difference j = entry cost (m + j) -ℤ entry cost (m + n + 1)

  -- it is what the cost row less its unit times the artificial cost has there
  less_at : ReachedRows (start_of F S) t → (j : ℕ) → 0 < j → j ≤ n → entry cost (m + j) -ℤ entry cost (m + n + 1) *ℤ entry (artificial_cost t) (m + j) ≡ difference j
  less_at r j h l =
      ap (λ a. entry cost (m + j) -ℤ entry cost (m + n + 1) *ℤ a) (art_middle m n (m + j - 1) (omega (arith, h)) (omega (arith, l)))
      ∙ ap (λ z. entry cost (m + j) -ℤ z) (times_one (entry cost (m + n + 1)))
    where
      times_one : (x : ℤ) → x *ℤ pos 1 ≡ x
      times_one x = omega (arith, ints)

  -- where the artificial cost is 0 nothing is taken away
  less_none : (x d a : ℤ) → a ≡ pos 0 → x ≡ x -ℤ d *ℤ a
  less_none x d a e = less_zero x ∙ ap (λ z. x -ℤ z) (sym (*ℤ-zero d) ∙ ap (λ z. d *ℤ z) (sym e))
    where
      less_zero : (x : ℤ) → x ≡ x -ℤ pos 0
      less_zero x = omega (arith, ints)

  -- the cost row in the column of a clause
  pub cost_clause : ReachedRows (start_of F S) t → (k : ℕ) → 0 < k → k ≤ m
      → entry cost k ≡ sum_of (map (λ j. difference j *ℤ (sign F S j *ℤ at_clause F S j k)) (up_to n))
  unfolding start_of
  cost_clause r k h l =
      less_none (entry cost k) (entry cost (m + n + 1)) (entry (artificial_cost t) k) (art_first m n (k - 1) (omega (arith, h, l))) ∙ r.cost_combined k
      ∙ range_same (λ j. (entry cost (m + j) -ℤ entry cost (m + n + 1) *ℤ entry (artificial_cost t) (m + j)) *ℤ entry (at F S j).entries k) _ 1 n
      (λ j a b. (let b' : j ≤ n = omega (arith, b) in ap (λ z. z *ℤ entry (at F S j).entries k) (less_at r j a b') ∙ ap (λ z. difference j *ℤ z) (clause_entry F S j k a b' h l)))

  -- the cost row on the right side
  pub cost_right : ReachedRows (start_of F S) t → entry cost (m + n + 2) ≡ sum_of (map (λ j. difference j *ℤ (sign F S j *ℤ lack F S (var_at F S j))) (up_to n))
  unfolding start_of
  cost_right r =
      less_none (entry cost (m + n + 2)) (entry cost (m + n + 1)) (entry (artificial_cost t) (m + n + 2)) (art_last m n 0 (m + n + 2 - 1) (omega arith)) ∙ r.cost_combined (m + n + 2)
      ∙ range_same (λ j. (entry cost (m + j) -ℤ entry cost (m + n + 1) *ℤ entry (artificial_cost t) (m + j)) *ℤ entry (at F S j).entries (m + n + 2)) _ 1 n
      (λ j a b. (let b' : j ≤ n = omega (arith, b) in ap (λ z. z *ℤ entry (at F S j).entries (m + n + 2)) (less_at r j a b') ∙ ap (λ z. difference j *ℤ z) (right_entry F S j a b')))

  -- SOLUTIONS

  -- a number in column k and numbers in the basic columns that make each row 0 make each starting row 0
  pub start_solved : ReachedRows (start_of F S) t → (k : ℕ) (l : ℤ) (q : ℕ → ℤ)
      → ((i : ℕ) → IsRowOf t i → entry (row_at t i).entries k *ℤ l +ℤ entry (row_at t i).entries (row_at t i).basic *ℤ q i ≡ pos 0)
      → (j : ℕ) → 0 < j → j ≤ n → entry (at F S j).entries k *ℤ l +ℤ sum_of (map (λ i. entry (at F S j).entries (row_at t i).basic *ℤ q i) (up_to n)) ≡ pos 0
  unfolding start_of
  start_solved r k l q each j h g =
      sym (total_with_basic t k l q (entry (at F S j).entries)) ∙ r.solves_start (with_basic t k l q) (basic_solves (start_of F S) t k l q r each) j (h, g)
