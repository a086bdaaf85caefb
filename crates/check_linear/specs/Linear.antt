-- What tables say of the lines of a linear document.
use Rattle.std.specs.Prelude.{◌≡◌, ◌≤◌, ◌-◌, ◌+◌, ℕ, zero, suc, Bool, true, false, if◌then◌else◌, not, ◌&&◌, ◌||◌, ◌==◌, List, [], ◌∷◌, ◌++◌, length, map, find, min, ℤ, pos, negsuc, neg_ℤ, int_lt, Option, Some, None, slice_index, slice_index_or}
use Rattle.std.specs.List.{list_any}
use Rattle.std.specs.Option.{option_map_or}
use Rattle.lk_model.specs.Lists.{sum_of, is_zero, is_nonzero, up_to}
use Rattle.lk_model.specs.Formulas.Literal.{variable, mentions}
use Rattle.lk_model.specs.Formulas.Formula.{Cnf, clause_at, variables_to}
use Rattle.lk_model.specs.Held.VariableSets.{is_in}
use Rattle.lk_model.specs.Checks.Check.{line_fails}
use Rattle.lk_model.specs.Documents.Documents.{weighting_of, shares_at}
use Rattle.lk_model.specs.Held.PartialValues.{assignment_by}
use Rattle.lk_model.specs.Checks.LinearChecks.{is_same_value}
use Rattle.lk_model.specs.declared.document.Weight.{Weight}
use Rattle.lk_model.specs.declared.document.Stage.{Stage}
use Rattle.lk_model.specs.declared.document.Dual.{Dual}
use Rattle.lk_model.specs.declared.document.Share.{Share}
use Rattle.lk_model.specs.declared.document.Unit.{Unit}
use Rattle.check_tables.specs.Flags.{is_flagged}
use Rattle.kernel_laws.specs.FirstTables.{IsFirstTable}

-- DUALS

-- whether the number of a position's dual is at least 1, where it has a dual
abbrev pub AreDuals : ℕ → List Dual → List (Option Bool) → Type 0
AreDuals m dual table = IsFirstTable m (λ (y : Dual). y.pos) (λ (y : Dual). Some (not (int_lt y.y (pos 1)))) None None dual table

-- NUMBERS OF VARIABLES

-- the number, with the sign of the literal
abbrev pub signed : ℤ → ℤ → ℤ
signed (pos v) y = y
signed (negsuc k) y = neg_ℤ y

-- the numbers that the literals of a clause give a variable, where the clause has this number
abbrev pub numbers_in : ℤ → List ℤ → ℕ → List ℤ
numbers_in y [] v = []
numbers_in y (l ∷ clause) v = if variable l == v then signed l y ∷ numbers_in y clause v else numbers_in y clause v

-- the numbers that the literals of clauses give a variable, where the clauses at positions have these numbers
abbrev pub numbers_at : Cnf → List (ℕ × ℤ) → ℕ → List ℤ
numbers_at F [] v = []
numbers_at F ((p, y) ∷ ys) v = numbers_in y (clause_at F p) v ++ numbers_at F ys v

-- the list of a variable
abbrev pub numbers_of : List (List ℤ) → ℕ → List ℤ
numbers_of table v = slice_index_or table (v - 1) []

-- each variable has its numbers
pub record AreNumbers (F : Cnf) (ys : List (ℕ × ℤ)) (table : List (List ℤ)) : Type 0 where
  pub size : length table ≡ F.vars
  pub told : (v : ℕ) → 1 ≤ v → v ≤ F.vars → numbers_of table v ≡ numbers_at F ys v

-- the lists, with the numbers of one clause more
pub record AddsNumbers (n : ℕ) (y : ℤ) (clause : List ℤ) (before after : List (List ℤ)) : Type 0 where
  pub size : length after ≡ length before
  pub added : (v : ℕ) → 1 ≤ v → v ≤ n → numbers_of after v ≡ numbers_of before v ++ numbers_in y clause v

-- the variable occurs, and the sum of its numbers is not 0
abbrev pub is_unbalanced : List Bool → List (List ℤ) → ℕ → Bool
is_unbalanced occurring table v = is_in occurring v && is_nonzero (sum_of (numbers_of table v))

-- STAGES

-- the weight of a variable among some weights; 0 where it has none
abbrev pub weight_in : List Weight → ℕ → ℤ
weight_in weights v = option_map_or (λ (w : Weight). w.x) (find (λ (w : Weight). w.var == v) weights) (pos 0)

-- the first stage that is not 0 on the variable, by its number, where the numbers begin with k; the number behind the last
-- where all are 0
abbrev pub first_stage : ℕ → List Stage → ℕ → ℕ
first_stage k [] v = k
first_stage k (s ∷ stages) v = if is_nonzero (weighting_of s v) then k else first_stage (k + 1) stages v

-- the weight of the variable in the first stage that is not 0 on it; 0 where all are 0
abbrev pub first_weight : List Stage → ℕ → ℤ
first_weight [] v = pos 0
first_weight (s ∷ stages) v = if is_nonzero (weighting_of s v) then weighting_of s v else first_weight stages v

-- both, for each variable
pub record AreFirsts (n k : ℕ) (stages : List Stage) (places : List ℕ) (weights : List ℤ) : Type 0 where
  pub places_size : length places ≡ n
  pub weights_size : length weights ≡ n
  pub place : (v : ℕ) → 1 ≤ v → v ≤ n → slice_index_or places (v - 1) 0 ≡ first_stage k stages v
  pub weight : (v : ℕ) → 1 ≤ v → v ≤ n → slice_index_or weights (v - 1) (pos 0) ≡ first_weight stages v

-- both, with one stage more before the others
pub record NotesStage (n k : ℕ) (stage : List Weight) (places_before : List ℕ) (weights_before : List ℤ) (places : List ℕ) (weights : List ℤ) : Type 0 where
  pub places_size : length places ≡ length places_before
  pub weights_size : length weights ≡ length weights_before
  pub place : (v : ℕ) → 1 ≤ v → v ≤ n → slice_index_or places (v - 1) 0 ≡ (if is_nonzero (weight_in stage v) then k else slice_index_or places_before (v - 1) 0)
  pub weight : (v : ℕ) → 1 ≤ v → v ≤ n → slice_index_or weights (v - 1) (pos 0) ≡ (if is_nonzero (weight_in stage v) then weight_in stage v else slice_index_or weights_before (v - 1) (pos 0))

-- the sign of a number, if it is not 0
abbrev pub sign_of : ℤ → Option Bool
sign_of (pos zero) = None
sign_of (pos (suc k)) = Some true
sign_of (negsuc k) = Some false

-- the variable has not the sign of its first weight, or is set where it has none
abbrev pub is_bad_sign : List (Option Bool) → List ℤ → ℕ → Bool
is_bad_sign values weights v = not (is_same_value (assignment_by values v) (sign_of (slice_index_or weights (v - 1) (pos 0))))

-- the least of the stages of a clause's variables, and at most the last number
abbrev pub least_stage : ℕ → List ℕ → List ℤ → ℕ
least_stage last places [] = last
least_stage last places (l ∷ clause) = min (slice_index_or places (variable l - 1) 0) (least_stage last places clause)

-- the weights of a clause's literals whose variables have this stage
abbrev pub weights_at : ℕ → List ℕ → List ℤ → List ℤ → List ℤ
weights_at k places weights [] = []
weights_at k places weights (l ∷ clause) = if slice_index_or places (variable l - 1) 0 == k
    then signed l (slice_index_or weights (variable l - 1) (pos 0)) ∷ weights_at k places weights clause
    else weights_at k places weights clause

-- the sum of those at the least stage is below 0
abbrev pub is_bad_stage : ℕ → List ℕ → List ℤ → List ℤ → Bool
is_bad_stage last places weights clause = int_lt (sum_of (weights_at (least_stage last places clause) places weights clause)) (pos 0)

-- UNITS

-- the numbers that a unit gives a variable: those of its shares, less its d at its own variable
abbrev pub unit_numbers : Cnf → Unit → ℕ → List ℤ
unit_numbers F u w = numbers_at F (shares_at u) w ++ (if w == u.var then neg_ℤ u.d ∷ [] else [])

pub record AreUnitNumbers (F : Cnf) (u : Unit) (table : List (List ℤ)) : Type 0 where
  pub size : length table ≡ F.vars
  pub told : (v : ℕ) → 1 ≤ v → v ≤ F.vars → numbers_of table v ≡ unit_numbers F u v

-- no variable has a number
pub record AreNone (n : ℕ) (table : List (List ℤ)) : Type 0 where
  pub size : length table ≡ n
  pub told : (v : ℕ) → 1 ≤ v → v ≤ n → numbers_of table v ≡ []

-- the variables of a clause have none, and the others what they had
pub record ClearsNumbers (n : ℕ) (clause : List ℤ) (before after : List (List ℤ)) : Type 0 where
  pub size : length after ≡ length before
  pub cleared : (v : ℕ) → 1 ≤ v → v ≤ n → numbers_of after v ≡ (if mentions clause v then [] else numbers_of before v)

-- a variable of a clause is out of balance
abbrev pub is_unbalanced_clause : List Bool → List (List ℤ) → List ℤ → Bool
is_unbalanced_clause occurring table clause = list_any (λ l. is_unbalanced occurring table (variable l)) clause

-- d is 0, or a share is of no kept clause, or a variable of the kept clauses is out of balance
abbrev pub is_bad_unit_line : Cnf → List Bool → List Bool → Unit → Bool
is_bad_unit_line F kept occurring u = is_zero u.d || list_any (λ (s : Share). not (is_flagged kept s.pos)) u.shares
    || list_any (λ w. is_in occurring w && is_nonzero (sum_of (unit_numbers F u w))) (variables_to F.vars)

-- the unit of a number, which counts from 1; none of the number 0
abbrev pub no_unit : Unit
no_unit = record { var = 0; d = pos 0; shares = [] }

abbrev pub unit_numbered : List Unit → ℕ → Unit
unit_numbered units k = slice_index_or units (k - 1) no_unit

abbrev pub unit_line : List Unit → ℕ → Option Unit
unit_line units k = if k == 0 then None else Some (unit_numbered units k)

-- of these numbers of units the one of each variable's unit; 0 where the variable has none
abbrev pub HasUnitPlaces : ℕ → List Unit → List ℕ → List ℕ → Type 0
HasUnitPlaces n units numbers table = IsFirstTable n (λ k. (unit_numbered units k).var) (λ k. k) 0 0 numbers table

-- of all units the number of each variable's unit; 0 where the variable has none
abbrev pub AreUnitPlaces : ℕ → List Unit → List ℕ → Type 0
AreUnitPlaces n units table = HasUnitPlaces n units (up_to (length units)) table

-- the unit of a variable is missing, not wanted or bad
abbrev pub is_bad_unit : Cnf → List Bool → List Bool → List Unit → List ℕ → ℕ → Bool
is_bad_unit F kept occurring units table v = line_fails (is_in occurring v) (unit_line units (slice_index table (v - 1))) (is_bad_unit_line F kept occurring)

-- the numbers of shares, at their positions
abbrev pub numbers_by : List Share → List (ℕ × ℤ)
numbers_by shares = map (λ (s : Share). (s.pos, s.z)) shares

-- a clause of a share holds the variable
abbrev pub is_shared : Cnf → List Share → ℕ → Bool
is_shared F shares v = list_any (λ (s : Share). mentions (clause_at F s.pos) v) shares

-- a variable of a clause of a share is out of balance
abbrev pub is_unbalanced_share : Cnf → List Bool → List (List ℤ) → List Share → Bool
is_unbalanced_share F occurring table shares = list_any (λ (s : Share). is_unbalanced_clause occurring table (clause_at F s.pos)) shares

-- the variables of the clauses of shares have no numbers, and the others what they had
pub record ClearsShares (F : Cnf) (shares : List Share) (before after : List (List ℤ)) : Type 0 where
  pub size : length after ≡ length before
  pub cleared : (v : ℕ) → 1 ≤ v → v ≤ F.vars → numbers_of after v ≡ (if is_shared F shares v then [] else numbers_of before v)
