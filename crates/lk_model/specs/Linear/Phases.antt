-- What the linear run does next: the first phase of the simplex method with Bland's rule, then a phase that takes the
-- artificial columns out of the basis.
use Rattle.std.specs.Prelude.{ℕ, ◌+◌, Bool, not, if◌then◌else◌, ◌&&◌, ◌||◌, nat_lt, List, [], map, find, filter, zip, ℤ, pos, int_lt, ◌-ℤ◌, ◌*ℤ◌, Option, unwrap_or}
use Rattle.std.specs.List.{list_all, list_any}
use Rattle.std.specs.Option.{option_map_or}
use Rattle.std.specs.Ordering.{int_eq}
use Rattle.lk_model.specs.Lists.{up_to, is_nonzero}
use Rattle.lk_model.specs.Formulas.Literal.{variable}
use Rattle.lk_model.specs.Formulas.Formula.{Cnf, clause_at}
use Rattle.lk_model.specs.Documents.Documents.{weighting_of}
use Rattle.lk_model.specs.Linear.Arithmetic.{primitive, made}
use Rattle.lk_model.specs.Linear.Rows.{TableauRows, entry, row_at, sign_at, m_of, r_of, artificial, unit_column, right_column}
use Rattle.lk_model.specs.Linear.Pivot.{in_first_phase}
use Rattle.lk_model.specs.declared.wide.Op.TheVariants.{Difference}
use Rattle.lk_model.specs.declared.wide.Wide.{Wide}
use Rattle.lk_model.specs.declared.document.Stage.{Stage}
use Rattle.lk_model.specs.declared.document.Weight.{Weight}

-- a pivot on a row and a column, a stage, or the end
pub data NextMove : Type 0 where
  PivotOn : ℕ → ℕ → NextMove
  StageStands : NextMove
  EndsLean : NextMove

-- FIRST PHASE

-- the least clause or artificial column with a negative entry in the cost row
abbrev pub entering : TableauRows → Option ℕ
entering t = find (λ k. int_lt (entry t.cost k) (pos 0)) (up_to (m_of t + r_of t))

-- row i has a positive entry in column k
abbrev pub may_leave : TableauRows → ℕ → ℕ → Bool
may_leave t k i = int_lt (pos 0) (entry (row_at t i).entries k)

-- the quotient of right side by entry is less in row j than in row i, or they are equal and j has the lesser basic column
abbrev pub leaves_before : TableauRows → ℕ → ℕ → ℕ → Bool
leaves_before t k i j =
    let a = entry (row_at t j).entries (right_column t) *ℤ entry (row_at t i).entries k in
    let b = entry (row_at t i).entries (right_column t) *ℤ entry (row_at t j).entries k in
    int_lt a b || (int_eq a b && nat_lt (row_at t j).basic (row_at t i).basic)

-- the row that leaves: no row that may leave comes before it
abbrev pub leaving : TableauRows → ℕ → Option ℕ
leaving t k = find (λ i. may_leave t k i && list_all (λ j. not (may_leave t k j && leaves_before t k i j)) (up_to (r_of t))) (up_to (r_of t))

-- SECOND PHASE

-- the first row whose basic column is artificial, and the least clause column in which it is not 0
abbrev pub artificial_row : TableauRows → Option ℕ
artificial_row t = find (λ i. nat_lt (m_of t) (row_at t i).basic) (up_to (r_of t))

abbrev pub replacing : TableauRows → ℕ → Option ℕ
replacing t i = find (λ k. is_nonzero (entry (row_at t i).entries k)) (up_to (m_of t))

-- NEXT

unfoldable pub next : TableauRows → NextMove
next t = if in_first_phase t
    then option_map_or (λ k. PivotOn (unwrap_or (leaving t k) 0) k) (entering t) StageStands
    else option_map_or (λ i. option_map_or (PivotOn i) (replacing t i) StageStands) (artificial_row t) EndsLean

-- STAGES

-- The number of the j-th variable in a stage, up to its sign: in the first phase its entry in the cost row less the cost
-- unit, in the second its entry in the row that can't be pivoted on.
abbrev pub stage_entry : TableauRows → ℕ → ℤ
stage_entry t j = if in_first_phase t
    then entry t.cost (artificial t j) -ℤ entry t.cost (unit_column t)
    else entry (row_at t (unwrap_or (artificial_row t) 0)).entries (artificial t j)

-- the weights that are not 0, divided by their gcd
unfoldable pub stage_of : TableauRows → Stage
stage_of t = record {
  weights = filter (λ (w : Weight). is_nonzero w.x)
      (map (λ (v, x). record { var = v; x = x }) (zip t.vars (primitive (map (λ j. sign_at t j *ℤ stage_entry t j) (up_to (r_of t))))));
}

unfoldable pub made_in_stage : TableauRows → List Wide
made_in_stage t = if in_first_phase t
    then map (λ j. made Difference (entry t.cost (artificial t j)) (entry t.cost (unit_column t))) (up_to (r_of t))
    else []

-- the positions whose clauses have no variable with a weight
unfoldable pub unweighted : Cnf → Stage → List ℕ → List ℕ
unweighted F stage S = filter (λ p. not (list_any (λ l. is_nonzero (weighting_of stage (variable l))) (clause_at F p))) S
