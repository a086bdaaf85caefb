-- A stage that stands has no balance below 0 on the clauses of the rows, and a weight there.
use Rattle.std.proofs.Common.{◌≡◌, ◌≢◌, inl, inr, ◌⊎◌, ℕ, suc, ◌+◌, ◌-◌, ◌<◌, ◌≤◌, Bool, true, false, cond, ◌==◌, nat_lt, List, map, length, get_or, ℤ, pos, negsuc, ◌*ℤ◌, ◌<ℤ◌, ◌≤ℤ◌, int_lt, refl, sym, ap, ◌∙◌, subst, arith, Option, Some, None, unwrap_or, IsTrue}
use Rattle.std.specs.List.{list_any}
use Rattle.std.specs.Option.{option_map_or}
use Rattle.std.proofs.Math.IntN.{*ℤ-zero, zero-*ℤ}
use Rattle.std.proofs.lemmas.Bool.{cases_Bool, leb-true, eqb-true, both_ways}
use Rattle.std.proofs.lemmas.Int.{ints}
use Rattle.std.proofs.lemmas.List.FromFn.{get_or-map-range_with_len}
use Rattle.lk_model.specs.Lists.{up_to, sum_of, among, is_nonzero}
use Rattle.lk_model.specs.Formulas.Literal.{variable, mentions}
use Rattle.lk_model.specs.Formulas.Formula.{Cnf, is_formula, clause_at, variables_at, variable_occurs, variables_to}
use Rattle.lk_model.specs.Formulas.Balance.{balance}
use Rattle.lk_model.specs.Documents.Documents.{weighting_of}
use Rattle.lk_model.specs.Linear.Arithmetic.{primitive}
use Rattle.lk_model.specs.Linear.Rows.{Row, TableauRows, entry, row_at, sign_at, lack, start_of}
use Rattle.lk_model.specs.Linear.Pivot.{in_first_phase}
use Rattle.lk_model.specs.Linear.Phases.{PivotOn, StageStands, EndsLean, next, entering, leaving, artificial_row, replacing, stage_entry, stage_of}
use Rattle.lk_model.proofs.Counting.{from_filter, among-range}
use Rattle.lk_model.proofs.Founds.{none_to, up_to_bounds}
use Rattle.lk_model.proofs.ListTests.{passes_among, passing, zero_is}
use Rattle.lk_model.proofs.Variables.{any_mono}
use Rattle.lk_model.proofs.Products.{mul_assoc, mul_swap}
use Rattle.lk_model.proofs.Lists.{among_at, place_of}
use Rattle.exact_pivot.specs.Reached.{IsRowOf, ReachedRows}
use Rattle.exact_pivot.proofs.Wholes.{cancel_least}
use Rattle.exact_pivot.proofs.Divided.{IsDivided, primitive_divided}
use Rattle.exact_pivot.proofs.Finds.{find_says}
use Rattle.exact_pivot.proofs.ReachedRows.{reached_rows}
use Rattle.exact_pivot.proofs.Starts.{range_same}
use Rattle.linear_laws.proofs.Sums.{cancel_zero, sum_zero, sum_times}
use Rattle.linear_run_laws.specs.RunLaw.{StageLaw}
use Rattle.linear_run_laws.proofs.StartRows.{var_at, sign, sign_one, sign_entry, variables_differ}
use Rattle.linear_run_laws.proofs.RunRows.{rows_with, shaped, at_clause, row_clause, difference, cost_clause, cost_right}
use Rattle.linear_run_laws.proofs.Weights.{weight_at, balance_by_places}

module _ (F : Cnf) (S : List ℕ) (rows : List Row) (cost : List ℤ) where
  abbrev pub t : TableauRows
  t = rows_with F S rows cost

  abbrev pub m : ℕ
  m = length S

  abbrev pub n : ℕ
  n = length (variables_at F S)

  -- the numbers of the stage before they are divided, and what they are divided by
  abbrev pub numbers : List ℤ
  numbers = map (λ j. sign_at t j *ℤ stage_entry t j) (up_to n)

  pub divided : (c : ℤ) × IsDivided c (primitive numbers) numbers
  divided = primitive_divided numbers

  -- the weighting of the stage
  abbrev pub weight : ℕ → ℤ
  weight = weighting_of (stage_of t)

  -- the weight of the j-th variable times the divisor
  weight_is : (j : ℕ) → 0 < j → j ≤ n → divided.0 *ℤ weight (var_at F S j) ≡ sign F S j *ℤ stage_entry t j
  unfolding stage_of
  weight_is j h l =
      ap (λ z. divided.0 *ℤ z) (weight_at (variables_at F S) (primitive numbers) (j - 1) (variables_differ F S) (omega (arith, h, l))) ∙ divided.1.at (j - 1)
      ∙ get_or-map-range_with_len (λ j. sign_at t j *ℤ stage_entry t j) 1 n (j - 1) j (pos 0) (omega (arith, h, l)) (omega (arith, h))
      ∙ ap (λ z. z *ℤ stage_entry t j) (sign_entry F S j h l)

  -- the balance in the clause of column k times the divisor
  balance_is : is_formula F ≡ true → (k : ℕ) → 0 < k → k ≤ m
      → divided.0 *ℤ balance weight (clause_at F (get_or S (k - 1) 0)) ≡ sum_of (map (λ j. stage_entry t j *ℤ (sign F S j *ℤ at_clause F S j k)) (up_to n))
  balance_is form k h l =
      ap (λ z. divided.0 *ℤ z) (balance_by_places F S weight (get_or S (k - 1) 0) form (among_at S (k - 1) (omega (arith, h, l))))
      ∙ sym (sum_times divided.0 (λ j. weight (var_at F S j) *ℤ at_clause F S j k) (up_to n))
      ∙ range_same (λ j. divided.0 *ℤ (weight (var_at F S j) *ℤ at_clause F S j k)) (λ j. stage_entry t j *ℤ (sign F S j *ℤ at_clause F S j k)) 1 n
      (λ j a b. sym (mul_assoc divided.0 (weight (var_at F S j)) (at_clause F S j k)) ∙ ap (λ z. z *ℤ at_clause F S j k) (weight_is j a (omega (arith, b)))
      ∙ mul_assoc (sign F S j) (stage_entry t j) (at_clause F S j k) ∙ mul_swap (sign F S j) (stage_entry t j) (at_clause F S j k))

  -- where no variable has a weight, all numbers are 0
  no_number : (j : ℕ) → 0 < j → j ≤ n → weight (var_at F S j) ≡ pos 0 → stage_entry t j ≡ pos 0
  no_number j h l none = cancel_zero (sign F S j) (stage_entry t j) (not_zero (sign F S j) (sign_one F S (var_at F S j)))
      (sym (weight_is j h l) ∙ ap (λ z. divided.0 *ℤ z) none ∙ *ℤ-zero divided.0)
    where
      not_zero : (z : ℤ) → (z ≡ pos 1) ⊎ (z ≡ negsuc 0) → z ≢ pos 0
      not_zero z (inl e) f = omega (arith, ints, e, f)
      not_zero z (inr e) f = omega (arith, ints, e, f)

  -- HOW A STAGE STANDS

  -- in the first phase the cost row has no negative entry
  abbrev pub StandsFirst : Type 0
  StandsFirst = (in_first_phase t ≡ true) × ((k : ℕ) → 0 < k → k ≤ m → pos 0 ≤ℤ entry cost k)

  -- in the second a row with an artificial basic column is 0 in the columns of the clauses
  pub record StandsSecond : Type 0 where
    pub phase : in_first_phase t ≡ false
    pub row : ℕ
    pub is : artificial_row t ≡ Some row
    pub within : IsRowOf t row
    pub artificial : m < (row_at t row).basic
    pub zeros : (k : ℕ) → 0 < k → k ≤ m → entry (row_at t row).entries k ≡ pos 0

  -- where no column enters no entry of a clause is negative
  least_cost : entering t ≡ None → (k : ℕ) → 0 < k → k ≤ m → pos 0 ≤ℤ entry cost k
  least_cost e k h l = least (entry cost k) (none_to (λ k. int_lt (entry cost k) (pos 0)) (m + n) k e h (omega (arith, l)))
    where
      least : (z : ℤ) → int_lt z (pos 0) ≡ false → pos 0 ≤ℤ z
      least z e = grind (arith, ints)

  -- a row that nothing replaces is 0 at the clauses
  second_stands : in_first_phase t ≡ false → (i : ℕ) → artificial_row t ≡ Some i → replacing t i ≡ None → StandsSecond
  second_stands second i e f =
      let found = find_says (λ i. nat_lt m (row_at t i).basic) 1 n i e in
      record {
        phase = second;
        row = i;
        is = e;
        within = (found.least, omega (arith, found.below));
        artificial = leb-true (suc m) (row_at t i).basic found.passes;
        zeros = λ k h l. zero_is (entry (row_at t i).entries k) (none_to (λ k. is_nonzero (entry (row_at t i).entries k)) m k f h l);
      }

  -- a stage stands in one of these ways
  pub stands : next t ≡ StageStands → StandsFirst ⊎ StandsSecond
  unfolding next
  stands e = by_phase (in_first_phase t) refl e
    where
      at_row : in_first_phase t ≡ false → (i : ℕ) → artificial_row t ≡ Some i → (o : Option ℕ) → replacing t i ≡ o → option_map_or (PivotOn i) o StageStands ≡ StageStands → StandsFirst ⊎ StandsSecond
      at_row second i is None f e = inr (second_stands second i is f)
      at_row second i is (Some k) f e = absurd (let g : ⊥ = cc in g)

      by_row : in_first_phase t ≡ false → (o : Option ℕ) → artificial_row t ≡ o → option_map_or (λ i. option_map_or (PivotOn i) (replacing t i) StageStands) o EndsLean ≡ StageStands → StandsFirst ⊎ StandsSecond
      by_row second None f e = absurd (let g : ⊥ = cc in g)
      by_row second (Some i) f e = at_row second i f (replacing t i) refl e

      by_column : in_first_phase t ≡ true → (o : Option ℕ) → entering t ≡ o → option_map_or (λ k. PivotOn (unwrap_or (leaving t k) 0) k) o StageStands ≡ StageStands → StandsFirst ⊎ StandsSecond
      by_column first None f e = inl (first, least_cost f)
      by_column first (Some k) f e = absurd (let g : ⊥ = cc in g)

      by_phase : (b : Bool) → in_first_phase t ≡ b → cond b (option_map_or (λ k. PivotOn (unwrap_or (leaving t k) 0) k) (entering t) StageStands)
          (option_map_or (λ i. option_map_or (PivotOn i) (replacing t i) StageStands) (artificial_row t) EndsLean) ≡ StageStands → StandsFirst ⊎ StandsSecond
      by_phase true f e = by_column f (entering t) refl e
      by_phase false f e = by_row f (artificial_row t) refl e

  -- IN THE FIRST PHASE the numbers are those of the cost row less its unit, and the balances are its entries
  pub first_entry : in_first_phase t ≡ true → (j : ℕ) → stage_entry t j ≡ difference F S rows cost j
  first_entry e j = rw e refl

  pub first_balance : ReachedRows (start_of F S) t → is_formula F ≡ true → in_first_phase t ≡ true → (k : ℕ) → 0 < k → k ≤ m
      → divided.0 *ℤ balance weight (clause_at F (get_or S (k - 1) 0)) ≡ entry cost k
  first_balance r form first k h l = balance_is form k h l
      ∙ range_same (λ j. stage_entry t j *ℤ (sign F S j *ℤ at_clause F S j k)) (λ j. difference F S rows cost j *ℤ (sign F S j *ℤ at_clause F S j k)) 1 n
      (λ j a b. ap (λ z. z *ℤ (sign F S j *ℤ at_clause F S j k)) (first_entry first j)) ∙ sym (cost_clause F S rows cost r k h l)

  -- IN THE SECOND they are those of the row, and the balances are its entries
  pub second_entry : (s : StandsSecond) → (j : ℕ) → stage_entry t j ≡ entry (row_at t s.row).entries (m + j)
  second_entry s j = rw (s.phase, s.is) refl

  pub second_balance : ReachedRows (start_of F S) t → is_formula F ≡ true → (s : StandsSecond) → (k : ℕ) → 0 < k → k ≤ m
      → divided.0 *ℤ balance weight (clause_at F (get_or S (k - 1) 0)) ≡ entry (row_at t s.row).entries k
  second_balance r form s k h l = balance_is form k h l
      ∙ range_same (λ j. stage_entry t j *ℤ (sign F S j *ℤ at_clause F S j k)) (λ j. entry (row_at t s.row).entries (m + j) *ℤ (sign F S j *ℤ at_clause F S j k)) 1 n
      (λ j a b. ap (λ z. z *ℤ (sign F S j *ℤ at_clause F S j k)) (second_entry s j)) ∙ sym (row_clause F S rows cost r s.row k s.within h l)

  -- so no balance is below 0
  least_balance : ReachedRows (start_of F S) t → is_formula F ≡ true → next t ≡ StageStands → (k : ℕ) → 0 < k → k ≤ m
      → pos 0 ≤ℤ balance weight (clause_at F (get_or S (k - 1) 0))
  least_balance r form e k h l = cancel_least divided.0 (balance weight (clause_at F (get_or S (k - 1) 0))) divided.1.some (elim (stands e) [
    | inl s ↦ subst (λ z. pos 0 ≤ℤ z) (sym (first_balance r form s.0 k h l)) (s.1 k h l)
    | inr s ↦ is_least (divided.0 *ℤ balance weight (clause_at F (get_or S (k - 1) 0))) (second_balance r form s k h l ∙ s.zeros k h l)
  ])
    where
      is_least : (z : ℤ) → z ≡ pos 0 → pos 0 ≤ℤ z
      is_least z e = omega (arith, ints, e)

  -- A WEIGHT

  -- not all numbers are 0
  some_number : ReachedRows (start_of F S) t → next t ≡ StageStands → ((j : ℕ) → 0 < j → j ≤ n → stage_entry t j ≡ pos 0) → ⊥
  some_number r e none = elim (stands e) [
    | inl s ↦ both_ways (is_nonzero (entry cost (m + n + 2))) (ap is_nonzero (cost_right F S rows cost r
        ∙ range_same (λ j. difference F S rows cost j *ℤ (sign F S j *ℤ lack F S (var_at F S j))) (λ j. pos 0) 1 n
        (λ j a b. ap (λ z. z *ℤ (sign F S j *ℤ lack F S (var_at F S j))) (sym (first_entry s.0 j) ∙ none j a (omega (arith, b))) ∙ zero-*ℤ (sign F S j *ℤ lack F S (var_at F S j)))
        ∙ sum_zero (λ j. pos 0) (up_to n) (λ j i. refl))) s.0
    | inr s ↦
        (let most = r.basic_most s.row s.within in
        let high = s.artificial in
        let j = (row_at t s.row).basic - m in
        let place : m + j ≡ (row_at t s.row).basic = omega (arith, high) in
        let zero_there : entry (row_at t s.row).entries (row_at t s.row).basic ≡ pos 0 =
        sym (ap (λ b. entry (row_at t s.row).entries b) place) ∙ sym (second_entry s j) ∙ none j (omega (arith, high)) (omega (arith, high, most)) in
        not_some (entry (row_at t s.row).entries (row_at t s.row).basic) (r.basic_positive s.row s.within) zero_there)
  ]
    where
      not_some : (z : ℤ) → pos 0 <ℤ z → z ≡ pos 0 → ⊥
      not_some z h e = omega (arith, ints, h, e)

  -- so a variable has a weight
  some_weight : ReachedRows (start_of F S) t → next t ≡ StageStands → (j : ℕ) × (0 < j) × (j ≤ n) × (is_nonzero (weight (var_at F S j)) ≡ true)
  some_weight r e = elim (cases_Bool (list_any (λ j. is_nonzero (weight (var_at F S j))) (up_to n))) [
    | inl y ↦ (let w = passing (λ j. is_nonzero (weight (var_at F S j))) (up_to n) y in let b = up_to_bounds n w.0 w.1 in (w.0, b.0, b.1, w.2))
    | inr none ↦ absurd (some_number r e (λ j h l. no_number j h l (zero_is (weight (var_at F S j)) (fails j h l none))))
  ]
    where
      fails : (j : ℕ) → 0 < j → j ≤ n → list_any (λ j. is_nonzero (weight (var_at F S j))) (up_to n) ≡ false → is_nonzero (weight (var_at F S j)) ≡ false
      fails j h l none = elim (cases_Bool (is_nonzero (weight (var_at F S j)))) [
        | inl y ↦ absurd (both_ways (list_any (λ j. is_nonzero (weight (var_at F S j))) (up_to n)) none (passes_among (λ j. is_nonzero (weight (var_at F S j))) (up_to n) j (among-range 1 n j h (omega (arith, l))) y))
        | inr f ↦ f
      ]

  -- and a clause of S has such a variable
  touched_clause : ReachedRows (start_of F S) t → next t ≡ StageStands
      → (p : ℕ) × (among S p ≡ true) × (list_any (λ l. is_nonzero (weight (variable l))) (clause_at F p) ≡ true)
  touched_clause r e =
      let w = some_weight r e in
      let low = w.1 in
      let most = w.2 in
      let v = var_at F S w.0 in
      let there : variable_occurs F S v ≡ true = (from_filter (variable_occurs F S) (variables_to F.vars) v (among_at (variables_at F S) (w.0 - 1) (omega (arith, low, most)))).0 in
      let p = passing (λ p. mentions (clause_at F p) v) S there in
      (p.0, p.1, any_mono (λ l. variable l == v) (λ l. is_nonzero (weight (variable l))) (clause_at F p.0) (λ l s. subst (λ k. is_nonzero (weight k) ≡ true) (sym (eqb-true (variable l) v s)) w.3) p.2)

-- THE LAW

-- a fact of reached rows of the form with rows and cost apart is one of all reached rows
pub reached_form : (F : Cnf) (S : List ℕ) (P : TableauRows → Type 0) → ((rows : List Row) (cost : List ℤ) → ReachedRows (start_of F S) (rows_with F S rows cost) → P (rows_with F S rows cost))
    → (t : TableauRows) → ReachedRows (start_of F S) t → P t
reached_form F S P f t r =
    let e = shaped F S t r in
    subst P (sym e) (f t.rows t.cost (subst (ReachedRows (start_of F S)) e r))

-- the law
pub stage_law : StageLaw
stage_law = record {
  balances = λ F S t form reached.
      reached_form F S (λ t. next t ≡ StageStands → (p : ℕ) → IsTrue (among S p) → pos 0 ≤ℤ balance (weighting_of (stage_of t)) (clause_at F p))
      (λ rows cost r e p there.
      let w = place_of S p there in
      let inside = w.1 in
      let step : w.0 + 1 - 1 ≡ w.0 = omega arith in
      subst (λ q. pos 0 ≤ℤ balance (weighting_of (stage_of (rows_with F S rows cost))) (clause_at F q)) (ap (λ i. get_or S i 0) step ∙ w.2)
      (least_balance F S rows cost r form e (w.0 + 1) (omega arith) (omega (arith, inside)))) t (reached_rows F S t reached);
  touches = λ F S t reached.
      reached_form F S (λ t. next t ≡ StageStands → (p : ℕ) × IsTrue (among S p) × IsTrue (list_any (λ l. is_nonzero (weighting_of (stage_of t) (variable l))) (clause_at F p)))
      (λ rows cost r e. touched_clause F S rows cost r e) t (reached_rows F S t reached);
}
