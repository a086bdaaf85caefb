-- The dual and unit lines of a run that ends lean: where they stand, and that no check of them fails.
use Rattle.std.proofs.Common.{◌≡◌, inl, inr, ℕ, zero, suc, ◌+◌, ◌-◌, ◌<◌, ◌≤◌, Bool, true, false, cond, if◌then◌else◌, not, ◌&&◌, ◌||◌, ◌==◌, List, [], ◌∷◌, ◌++◌, map, zip, filter, length, get_or, ℤ, pos, ◌*ℤ◌, ◌<ℤ◌, int_lt, refl, sym, ap, ◌∙◌, subst, arith, None, Contains, eq-eqb}
use Rattle.std.specs.List.{list_any, list_all, range_with_len}
use Rattle.std.specs.Ordering.{int_eq}
use Rattle.std.proofs.Math.IntN.{*ℤ-zero}
use Rattle.std.proofs.lemmas.Bool.{cases_Bool, cases_eq, ne_eqb, lt-ltb, le-leb, both_ways, false_from_ne_true}
use Rattle.std.proofs.lemmas.Bool.Decides.{Decides-int_eq}
use Rattle.std.proofs.lemmas.Int.{ints}
use Rattle.lk_model.specs.Lists.{up_to, sum_of, among, is_zero, is_nonzero, rises_within}
use Rattle.lk_model.specs.Limits.{is_in_range}
use Rattle.lk_model.specs.Formulas.Literal.{mentions}
use Rattle.lk_model.specs.Formulas.Formula.{Cnf, clause_at, variables_to, variables_at, variable_occurs}
use Rattle.lk_model.specs.Formulas.Balance.{incidence, balance_in}
use Rattle.lk_model.specs.Formulas.Lean.{are_positions}
use Rattle.lk_model.specs.Documents.Documents.{dual_of, unit_of, duals_at, shares_at}
use Rattle.lk_model.specs.Linear.Rows.{Row, TableauRows, artificial, start_of}
use Rattle.lk_model.specs.Linear.Phases.{EndsLean, next}
use Rattle.lk_model.specs.Linear.Ends.{dual_number, share_number, shares_of, dual_at_end, units_at_end, made_in_dual, made_in_units, common}
use Rattle.lk_model.specs.Linear.Arithmetic.{first_wide}
use Rattle.lk_model.specs.Documents.Form.{are_duals, is_linear_unit, is_weight}
use Rattle.lk_model.specs.Checks.Check.{line_fails}
use Rattle.lk_model.specs.declared.document.Dual.{Dual}
use Rattle.lk_model.specs.declared.document.Share.{Share}
use Rattle.lk_model.specs.declared.document.Unit.{Unit}
use Rattle.lk_model.proofs.Rising.{rises, rises_from}
use Rattle.lk_model.proofs.Counting.{in_filter, among-filter}
use Rattle.lk_model.proofs.Founds.{filtered_rise}
use Rattle.lk_model.proofs.Keys.{key_found, key_missing, none_passes, each_passes, first_in, later_in}
use Rattle.lk_model.proofs.Variables.{occurs}
use Rattle.lk_model.proofs.Lists.{among_at, place_of}
use Rattle.exact_pivot.specs.Reached.{ReachedRows}
use Rattle.exact_pivot.proofs.Starts.{range_same}
use Rattle.kernel_laws.proofs.Lines.{in_map}
use Rattle.kernel_laws.proofs.Lists.{among_in}
use Rattle.kernel_laws.proofs.Tests.{follows}
use Rattle.linear_laws.proofs.Sums.{sum_zero}
use Rattle.linear_laws.proofs.LinearLean.{incidence_absent}
use Rattle.linear_run_laws.proofs.RunRows.{rows_with}
use Rattle.linear_run_laws.proofs.RunDuals.{duals_balance, duals_some, balance_of_duals}
use Rattle.linear_run_laws.proofs.RunUnits.{shares_itself, shares_other, unit_some, unit_at, balance_of_shares}
use Rattle.linear_run_laws.proofs.EndRanges.{dual_in_range, common_in_range, share_in_range}

-- NUMBERED LISTS

-- the elements of a numbered list
map_numbered : (ps : List ℕ) (a : ℕ) → map (λ (e : ℕ × ℕ). e.1) (zip (range_with_len a (length ps)) ps) ≡ ps
map_numbered [] a = refl
map_numbered (p ∷ ps) a = λ i. p ∷ map_numbered ps (a + 1) i

-- images of images
map_twice : {X Y Z : Type 0} (f : Y → Z) (g : X → Y) (xs : List X) → map f (map g xs) ≡ map (λ x. f (g x)) xs
map_twice f g [] = refl
map_twice f g (x ∷ xs) = λ i. f (g x) ∷ map_twice f g xs i

-- each has its place by its number
numbered_at : (ps : List ℕ) (a : ℕ) (e : ℕ × ℕ) → Contains (zip (range_with_len a (length ps)) ps) e → (a ≤ e.0) × (e.0 < a + length ps) × (e.1 ≡ get_or ps (e.0 - a) 0)
numbered_at [] a e (k, lt, is) = absurd (omega (arith, lt))
numbered_at (p ∷ ps) a e (zero, lt, is) = subst (λ (e : ℕ × ℕ). (a ≤ e.0) × (e.0 < a + suc (length ps)) × (e.1 ≡ get_or (p ∷ ps) (e.0 - a) 0)) is
    (omega arith, omega arith, ap (λ k. get_or (p ∷ ps) k 0) (let none : 0 ≡ a - a = omega arith in none))
numbered_at (p ∷ ps) a e (suc k, lt, is) =
    let w = numbered_at ps (a + 1) e (k, omega (arith, lt), is) in
    let least = w.0 in
    let most = w.1 in
    (omega (arith, least), omega (arith, most), w.2 ∙ ap (λ k. get_or (p ∷ ps) k 0) (let step : suc (e.0 - (a + 1)) ≡ e.0 - a = omega (arith, least) in step))

-- FILTERED LINES

-- keys that rise do so where lines are left out
keys_rise : {X : Type 0} (key : X → ℕ) (p : X → Bool) (low high : ℕ) (xs : List X) → rises_within low high (map key xs) ≡ true → rises_within low high (map key (filter p xs)) ≡ true
keys_rise key p low high [] r = refl
keys_rise key p low high (x ∷ xs) r =
    let s = rises low high (key x) (map key xs) r in
    let rest = keys_rise key p (key x) high xs s.more in
    let above = s.above in
    elim (cases_Bool (p x)) [
      | inl y ↦ rw y (rw (lt-ltb low (key x) s.above, le-leb (key x) high s.within, rest) refl)
      | inr n ↦ rw n (rises_from low (key x) high (map key (filter p xs)) (omega (arith, above)) rest)
    ]

-- what a filter keeps stands there and passes
from_kept : {X : Type 0} (p : X → Bool) (xs : List X) (x : X) → Contains (filter p xs) x → (p x ≡ true) × Contains xs x
from_kept p [] x (k, lt, e) = absurd (omega (arith, lt))
from_kept p (z ∷ xs) x i = by_test (p z) refl i (λ j. from_kept p xs x j)
  where
    by_test : (b : Bool) → p z ≡ b → Contains (cond b (z ∷ filter p xs) (filter p xs)) x → (Contains (filter p xs) x → (p x ≡ true) × Contains xs x) → (p x ≡ true) × Contains (z ∷ xs) x
    by_test true s (zero, lt, e) rest = (ap p (sym e) ∙ s, subst (λ w. Contains (z ∷ xs) w) e (first_in z xs))
    by_test true s (suc k, lt, e) rest = let w = rest (k, omega (arith, lt), e) in (w.0, later_in z xs x w.1)
    by_test false s i rest = let w = rest i in (w.0, later_in z xs x w.1)

-- a number above 0 is not below 1
not_low : (z : ℤ) → pos 0 <ℤ z → int_lt z (pos 1) ≡ false
not_low z h = grind (arith, ints)

module _ (F : Cnf) (S : List ℕ) (rows : List Row) (cost : List ℤ) (r : ReachedRows (start_of F S) (rows_with F S rows cost)) (e : next (rows_with F S rows cost) ≡ EndsLean) where
  abbrev t : TableauRows
  t = rows_with F S rows cost

  abbrev m : ℕ
  m = length S

  abbrev n : ℕ
  n = length (variables_at F S)

  abbrev vs : List ℕ
  vs = variables_at F S

  -- a variable that occurs has a place
  place_in : (v : ℕ) → variable_occurs F S v ≡ true → among (variables_to F.vars) v ≡ true → (j : ℕ) × (0 < j) × (j ≤ n) × (get_or vs (j - 1) 0 ≡ v)
  place_in v there inside =
      let w = place_of vs v (in_filter (variable_occurs F S) (variables_to F.vars) v there inside) in
      let lt = w.1 in
      (w.0 + 1, omega arith, omega (arith, lt), ap (λ k. get_or vs k 0) (let step : w.0 + 1 - 1 ≡ w.0 = omega arith in step) ∙ w.2)

  -- DUALS

  -- the dual lines are those of the positions
  dual_positions : map (λ (y : Dual). y.pos) (dual_at_end t) ≡ S
  unfolding dual_at_end
  dual_positions = map_twice (λ (y : Dual). y.pos) (λ (e : ℕ × ℕ). (let y : Dual = record { pos = e.1; y = dual_number t e.0 } in y)) (zip (up_to m) S) ∙ map_numbered S 1

  -- each has the number of its column
  dual_line : (y : Dual) → Contains (dual_at_end t) y → (c : ℕ) × (y.y ≡ dual_number t c)
  unfolding dual_at_end
  dual_line y i =
      let w = in_map (λ (e : ℕ × ℕ). (let y : Dual = record { pos = e.1; y = dual_number t e.0 } in y)) (zip (up_to m) S) y i in
      (w.0.0, ap (λ (y : Dual). y.y) (sym w.2))

  -- no dual is missing, strange or low
  pub dual_passes : (p : ℕ) → line_fails (among S p) (dual_of (dual_at_end t) p) (λ y. int_lt y.y (pos 1)) ≡ false
  dual_passes p = elim (cases_Bool (among S p)) [
    | inl there ↦
        (let w = key_found (λ (y : Dual). y.pos) (dual_at_end t) p (subst (λ ps. among ps p ≡ true) (sym dual_positions) there) in
        let line = dual_line w.value w.there in
        rw (there, w.is) (not_low w.value.y (subst (λ z. pos 0 <ℤ z) (sym line.1) (duals_some F S rows cost r line.0))))
    | inr out ↦ rw (out, key_missing (λ (y : Dual). y.pos) (dual_at_end t) p (subst (λ ps. among ps p ≡ false) (sym dual_positions) out)) refl
  ]

  -- they balance
  pub balance_passes : (v : ℕ) → among (variables_to F.vars) v ≡ true → (variable_occurs F S v && is_nonzero (balance_in F (duals_at (dual_at_end t)) v)) ≡ false
  balance_passes v inside = elim (cases_Bool (variable_occurs F S v)) [
    | inl there ↦
        (let w = place_in v there inside in
        let zero_there : balance_in F (duals_at (dual_at_end t)) v ≡ pos 0 = balance_of_duals F S rows cost r v
        ∙ subst (λ x. sum_of (map (λ c. dual_number t c *ℤ incidence (clause_at F (get_or S (c - 1) 0)) x) (up_to m)) ≡ pos 0) w.3 (duals_balance F S rows cost r e w.0 w.1 w.2) in
        rw there (ap is_nonzero zero_there))
    | inr out ↦ rw out refl
  ]

  -- UNITS

  -- the unit lines are those of the variables
  unit_variables : map (λ (u : Unit). u.var) (units_at_end t) ≡ vs
  unfolding units_at_end
  unit_variables = map_twice (λ (u : Unit). u.var) (λ (e : ℕ × ℕ). unit_at F S rows cost r e.0 e.1) (zip (up_to n) vs) ∙ map_numbered vs 1

  -- each unit line is that of a variable by its place
  record IsUnitLine (u : Unit) : Type 0 where
    place : ℕ
    least : 0 < place
    most : place ≤ n
    is : u ≡ unit_at F S rows cost r place (get_or vs (place - 1) 0)

  -- so is each of them
  unit_line : (u : Unit) → Contains (units_at_end t) u → IsUnitLine u
  unfolding units_at_end
  unit_line u i =
      let w = in_map (λ (e : ℕ × ℕ). unit_at F S rows cost r e.0 e.1) (zip (up_to n) vs) u i in
      let b = numbered_at vs 1 w.0 w.1 in
      let most = b.1 in
      record { place = w.0.0; least = b.0; most = omega (arith, most); is = sym w.2 ∙ ap (unit_at F S rows cost r w.0.0) b.2 }

  -- the shares stand at positions of S
  share_numbered : (j : ℕ) → List Share
  share_numbered j = map (λ (e : ℕ × ℕ). (let s : Share = record { pos = e.1; z = share_number t j e.0 } in s)) (zip (up_to m) S)

  -- they are all of S before those of 0 are left out
  share_positions : (j : ℕ) → map (λ (s : Share). s.pos) (share_numbered j) ≡ S
  unfolding share_numbered
  share_positions j = map_twice (λ (s : Share). s.pos) (λ (e : ℕ × ℕ). (let s : Share = record { pos = e.1; z = share_number t j e.0 } in s)) (zip (up_to m) S) ∙ map_numbered S 1

  -- each share is the number of its column, is not 0 and stands at a position of S
  share_line : (j : ℕ) (s : Share) → Contains (shares_of t j) s → (c : ℕ) × (s.z ≡ share_number t j c) × (is_nonzero s.z ≡ true) × (among S s.pos ≡ true)
  share_line j s i =
      let k = from_kept (λ (s : Share). is_nonzero s.z) (map (λ (e : ℕ × ℕ). (let s : Share = record { pos = e.1; z = share_number t j e.0 } in s)) (zip (up_to m) S)) s i in
      let w = in_map (λ (e : ℕ × ℕ). (let s : Share = record { pos = e.1; z = share_number t j e.0 } in s)) (zip (up_to m) S) s k.1 in
      let b = numbered_at S 1 w.0 w.1 in
      let least = b.0 in
      let most = b.1 in
      (w.0.0, ap (λ (s : Share). s.z) (sym w.2), k.0, subst (λ p. among S p ≡ true) (sym b.2 ∙ ap (λ (s : Share). s.pos) w.2) (among_at S (w.0.0 - 1) (omega (arith, least, most))))

  -- the balances of a unit
  unit_balance : (j : ℕ) → 0 < j → j ≤ n → (w : ℕ) → among (variables_to F.vars) w ≡ true
      → balance_in F (shares_at (unit_at F S rows cost r j (get_or vs (j - 1) 0))) w ≡ (if w == get_or vs (j - 1) 0 then common t (artificial t j) else pos 0)
  unit_balance j h l w inside = balance_of_shares F S rows cost r j (get_or vs (j - 1) 0) w ∙ elim (cases_eq w (get_or vs (j - 1) 0)) [
    | inl same ↦ rw (eq-eqb w (get_or vs (j - 1) 0) same)
        (subst (λ x. sum_of (map (λ c. share_number t j c *ℤ incidence (clause_at F (get_or S (c - 1) 0)) x) (up_to m)) ≡ common t (artificial t j)) (sym same) (shares_itself F S rows cost r e j h l))
    | inr other ↦ rw (ne_eqb w (get_or vs (j - 1) 0) other) (elim (cases_Bool (variable_occurs F S w)) [
      | inl there ↦
          (let p = place_in w there inside in
          subst (λ x. sum_of (map (λ c. share_number t j c *ℤ incidence (clause_at F (get_or S (c - 1) 0)) x) (up_to m)) ≡ pos 0) p.3
          (shares_other F S rows cost r e j p.0 h l p.1 p.2 (λ s. other (sym p.3 ∙ ap (λ i. get_or vs (i - 1) 0) (sym s)))))
      | inr out ↦ range_same (λ c. share_number t j c *ℤ incidence (clause_at F (get_or S (c - 1) 0)) w) (λ c. pos 0) 1 m (λ c a b. absent c w out a (omega (arith, b))) ∙ sum_zero (λ c. pos 0) (up_to m) (λ c i. refl)
    ])
  ]
    where
      absent : (c w : ℕ) → variable_occurs F S w ≡ false → 0 < c → c ≤ m → share_number t j c *ℤ incidence (clause_at F (get_or S (c - 1) 0)) w ≡ pos 0
      absent c w out a b =
          let none = false_from_ne_true (mentions (clause_at F (get_or S (c - 1) 0)) w)
          (λ there. both_ways (variable_occurs F S w) out (occurs F S (get_or S (c - 1) 0) w (among_at S (c - 1) (omega (arith, a, b))) there)) in
          ap (λ z. share_number t j c *ℤ z) (incidence_absent (clause_at F (get_or S (c - 1) 0)) w none) ∙ *ℤ-zero (share_number t j c)

  -- the balance in a variable of the kept clauses is not that of the unit
  abbrev pub is_off : Unit → ℕ → ℕ → Bool
  is_off u v w = variable_occurs F S w && not (int_eq (balance_in F (shares_at u) w) (if w == v then u.d else pos 0))

  -- no unit is missing, strange or bad
  abbrev pub is_bad : ℕ → Unit → Bool
  is_bad v u = is_zero u.d
      || list_any (λ (s : Share). not (among S s.pos)) u.shares
      || list_any (is_off u v) (variables_to F.vars)

  -- such a unit line is not bad
  good_unit : (u : Unit) (v : ℕ) → IsUnitLine u → u.var ≡ v → is_bad v u ≡ false
  good_unit u v line on = subst (λ u. is_bad v u ≡ false) (sym line.is) (rw (some, shares, balances) refl)
    where
      there : get_or vs (line.place - 1) 0 ≡ v
      there = sym (ap (λ (u : Unit). u.var) line.is) ∙ on

      not_zero : (z : ℤ) → pos 0 <ℤ z → is_zero z ≡ false
      not_zero z h = false_from_ne_true (is_zero z) (λ s. let f = (Decides-int_eq (pos 0) z).0 s in omega (arith, ints, h, f))

      some : is_zero (common t (artificial t line.place)) ≡ false
      some = not_zero (common t (artificial t line.place)) (unit_some F S rows cost r line.place)

      shares : list_any (λ (s : Share). not (among S s.pos)) (shares_of t line.place) ≡ false
      shares = none_passes (λ (s : Share). not (among S s.pos)) (shares_of t line.place) (λ s i. ap not (share_line line.place s i).3)

      unit : Unit
      unit = unit_at F S rows cost r line.place (get_or vs (line.place - 1) 0)

      balances : list_any (is_off unit v) (variables_to F.vars) ≡ false
      balances = none_passes (is_off unit v) (variables_to F.vars)
          (λ w i. follows (variable_occurs F S w) _ (λ occurs.
          (Decides-int_eq _ _).1 (unit_balance line.place line.least line.most w (among_in (variables_to F.vars) w i) ∙ ap (λ x. if w == x then common t (artificial t line.place) else pos 0) there)))

  -- so the check passes each variable
  pub unit_passes : (v : ℕ) → among (variables_to F.vars) v ≡ true → line_fails (variable_occurs F S v) (unit_of (units_at_end t) v) (is_bad v) ≡ false
  unit_passes v inside = elim (cases_Bool (variable_occurs F S v)) [
    | inl there ↦
        (let w = key_found (λ (u : Unit). u.var) (units_at_end t) v (subst (λ us. among us v ≡ true) (sym unit_variables) (in_filter (variable_occurs F S) (variables_to F.vars) v there inside)) in
        rw (there, w.is) (good_unit w.value v (unit_line w.value w.there) w.at))
    | inr out ↦ rw (
      out,
      key_missing (λ (u : Unit). u.var) (units_at_end t) v (subst (λ us. among us v ≡ false) (sym unit_variables) (among-filter (variable_occurs F S) (variables_to F.vars) v ∙ rw out refl)),
    ) refl
  ]

  -- THE FORM

  module _ (fits : first_wide (made_in_dual (rows_with F S rows cost) ++ made_in_units (rows_with F S rows cost)) ≡ None) (rise : are_positions F S ≡ true) where
    -- the dual lines are in form
    pub duals_form : are_duals (length F.clauses) (dual_at_end t) ≡ true
    duals_form =
        let rising : rises_within 0 (length F.clauses) (map (λ (y : Dual). y.pos) (dual_at_end t)) ≡ true = subst (λ ps. rises_within 0 (length F.clauses) ps ≡ true) (sym dual_positions) rise in
        let fine : list_all (λ (y : Dual). is_in_range y.y) (dual_at_end t) ≡ true = each_passes (λ (y : Dual). is_in_range y.y) (dual_at_end t)
        (λ y i. let line = dual_line y i in subst (λ z. is_in_range z ≡ true) (sym line.1) (dual_in_range F S rows cost fits line.0)) in
        rw (rising, fine) refl

    -- the unit lines rise
    pub units_rise : rises_within 0 F.vars (map (λ (u : Unit). u.var) (units_at_end t)) ≡ true
    units_rise = subst (λ us. rises_within 0 F.vars us ≡ true) (sym unit_variables) (filtered_rise F.vars (variable_occurs F S))

    -- their shares rise
    shares_rise : (j : ℕ) → rises_within 0 (length F.clauses) (map (λ (s : Share). s.pos) (shares_of t j)) ≡ true
    unfolding share_numbered
    shares_rise j = keys_rise (λ (s : Share). s.pos) (λ (s : Share). is_nonzero s.z) 0 (length F.clauses) (share_numbered j)
        (subst (λ ps. rises_within 0 (length F.clauses) ps ≡ true) (sym (share_positions j)) rise)

    -- and they are in form
    pub units_form : list_all (is_linear_unit (length F.clauses)) (units_at_end t) ≡ true
    units_form = each_passes (is_linear_unit (length F.clauses)) (units_at_end t) (λ u i.
        let line = unit_line u i in
        let j = line.place in
        let whole : is_in_range (common t (artificial t j)) ≡ true = common_in_range F S rows cost fits j line.least line.most in
        let weights : list_all (λ (s : Share). is_weight s.z) (shares_of t j) ≡ true = each_passes (λ (s : Share). is_weight s.z) (shares_of t j) (λ s k.
        let share = share_line j s k in
        let fine : is_in_range s.z ≡ true = subst (λ z. is_in_range z ≡ true) (sym share.1) (share_in_range F S rows cost fits j share.0 line.least line.most) in
        rw (share.2, fine) refl) in
        subst (λ u. is_linear_unit (length F.clauses) u ≡ true) (sym line.is) (rw (whole, shares_rise j, weights) refl))
