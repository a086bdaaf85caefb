-- The checks of an order and of stages, under P and on the formula without P.
use Rattle.std.proofs.Common.{◌≡◌, ℕ, zero, suc, ◌+◌, ◌-◌, ◌<◌, ◌≤◌, Bool, true, false, not, ◌&&◌, ◌||◌, ◌==◌, cond, List, [], ◌∷◌, length, map, find, take, get_or, refl, sym, ◌∙◌, ap, subst, inl, inr, arith, ℤ, pos, Option, Some, None, is_some, slice_index_or}
use Rattle.std.specs.Prelude.{int_lt, nat_le}
use Rattle.std.specs.List.{list_any, list_all, range_with_len}
use Rattle.std.specs.Option.{option_map_or}
use Rattle.std.proofs.lemmas.Bool.{cases_Bool, cases_eq, not-true, not-false, not_from_false, and_from, ne_eqb, leb-true}
use Rattle.lk_model.specs.Formulas.Literal.{variable, complement, contains}
use Rattle.lk_model.specs.Formulas.Formula.{Cnf, clause_at}
use Rattle.lk_model.specs.Formulas.Crossed.{Variables, crossed_out, AreVariables, formula_without}
use Rattle.lk_model.specs.Formulas.Balance.{Weighting}
use Rattle.lk_model.specs.Formulas.Assignment.{assignment_of}
use Rattle.lk_model.specs.Formulas.Autarky.{first_sign, first_balance}
use Rattle.lk_model.specs.Documents.Documents.{weighting_of}
use Rattle.lk_model.specs.Checks.Check.{fails}
use Rattle.lk_model.specs.Checks.PureChecks.{breaks_order, bad_order}
use Rattle.lk_model.specs.Checks.LinearChecks.{is_same_value, bad_sign, bad_stage}
use Rattle.lk_model.specs.declared.document.Stage.{Stage}
use Rattle.lk_model.specs.declared.document.DoneDocument.{DoneDocument}
use Rattle.lk_model.specs.declared.verdict.Kind.TheVariants.{BadOrder, BadStage}
use Rattle.lk_model.specs.Formulas.Protected.{SetsNone}
use Rattle.lk_model.proofs.Booleans.{and_true}
use Rattle.lk_model.proofs.Founds.{none_to}
use Rattle.lk_model.proofs.Literals.{variable_complement}
use Rattle.kernel_laws.proofs.Crossing.{same_positions, clause_without}
use Rattle.pure_laws.proofs.Orders.{is_bad_place}
use Rattle.document_laws.specs.Without.{document_without}
use Rattle.document_laws.proofs.Autarkies.{masked, all_masked, first_balance_crossed, held_crossed}
use Rattle.document_laws.proofs.Runs.{are_outside}
use Rattle.document_laws.proofs.Commons.{set_literal_outside}

-- FIRST PLACES

-- In a range two tests find the same first place, if they agree at each place before which the first one fails everywhere.
found_first : (t u : ℕ → Bool) (a n : ℕ) → ((p : ℕ) → a ≤ p → p < a + n → ((q : ℕ) → a ≤ q → q < p → t q ≡ false) → t p ≡ u p)
    → find t (range_with_len a n) ≡ find u (range_with_len a n)
found_first t u a zero h = refl
found_first t u a (suc n) h =
    let here = h a (omega arith) (omega arith) (λ q low high. absurd (omega (arith, low, high))) in
    elim (cases_Bool (t a)) [
      | inl y ↦ rw (sym here, y) refl
      | inr miss ↦ rw (sym here, miss) (found_first t u (a + 1) n (λ p low high before.
          h p (omega (arith, low)) (omega (arith, high)) (λ q from to. at_place q from to before miss)))
    ]
  where
    at_place : {p : ℕ} (q : ℕ) → a ≤ q → q < p → ((r : ℕ) → a + 1 ≤ r → r < p → t r ≡ false) → t a ≡ false → t q ≡ false
    at_place q from to before miss = elim (cases_eq q a) [
      | inl same ↦ ap t same ∙ miss
      | inr other ↦ before q (omega (arith, from, other)) to
    ]

-- what passes at each of the first places, each of the first elements passes
first_pass : (t : ℤ → Bool) (k : ℕ) (ls : List ℤ) → ((j : ℕ) → j < k → j < length ls → t (get_or ls j (pos 0)) ≡ true) → list_all t (take k ls) ≡ true
first_pass t zero ls h = refl
first_pass t (suc k) [] h = refl
first_pass t (suc k) (l ∷ ls) h =
    and_from (t l) (list_all t (take k ls)) (h 0 (omega arith) (omega arith)) (first_pass t k ls (λ j lt inside. h (suc j) (omega (arith, lt)) (omega (arith, inside))))

-- ORDERS

-- of literals outside P a crossed clause contains the same
any_earlier : (P : Variables) (c earlier : List ℤ) → are_outside P earlier ≡ true → list_any (contains (crossed_out P c)) earlier ≡ list_any (contains c) earlier
any_earlier P c [] out = refl
any_earlier P c (l ∷ earlier) out =
    let both = and_true (not (P (variable l))) (are_outside P earlier) out in
    rw (held_crossed P c l (not-true (P (variable l)) both.0), any_earlier P c earlier both.1) refl

-- so a literal outside P after them breaks the order for the same clauses
broken_same : (P : Variables) (cs : List (List ℤ)) (earlier : List ℤ) (l : ℤ) → are_outside P earlier ≡ true → P (variable l) ≡ false
    → list_any (λ c. contains c (complement l) && not (list_any (contains c) earlier)) cs
    ≡ list_any (λ c. contains c (complement l) && not (list_any (contains c) earlier)) (map (crossed_out P) cs)
broken_same P [] earlier l out n = refl
broken_same P (c ∷ cs) earlier l out n =
    let other : P (variable (complement l)) ≡ false = ap P (variable_complement l) ∙ n in
    λ i. (sym (held_crossed P c (complement l) other) i && not (sym (any_earlier P c earlier out) i)) || broken_same P cs earlier l out n i

-- and each literal does, where the set line sets none of P
breaks_same : (P : Variables) (F : Cnf) (set earlier : List ℤ) (l : ℤ) → SetsNone P (assignment_of set) → are_outside P earlier ≡ true
    → breaks_order F set earlier l ≡ breaks_order (formula_without F P) set earlier l
breaks_same P F set earlier l none out =
    at_tests (contains earlier l) (contains set l) _ _ (λ c. broken_same P F.clauses earlier l out (set_literal_outside P set l none c))
  where
    at_tests : (e s a b : Bool) → (s ≡ true → a ≡ b) → (e || not s || a) ≡ (e || not s || b)
    at_tests true s a b h = refl
    at_tests false true a b h = h refl
    at_tests false false a b h = refl

-- a literal that does not break the order is in the set line
in_set : (F : Cnf) (set earlier : List ℤ) (l : ℤ) → breaks_order F set earlier l ≡ false → contains set l ≡ true
in_set F set earlier l e = at_tests (contains earlier l) (contains set l) _ e
  where
    at_tests : (e s a : Bool) → (e || not s || a) ≡ false → s ≡ true
    at_tests true s a h = absurd (let f : ⊥ = cc in f)
    at_tests false true a h = refl
    at_tests false false a h = absurd (let f : ⊥ = cc in f)

-- where it fails at no index before, the literals before are outside P
before_outside : (P : Variables) (F : Cnf) (set order : List ℤ) (i : ℕ) → SetsNone P (assignment_of set) → i ≤ length order + 1
    → ((q : ℕ) → 1 ≤ q → q < i → is_bad_place F set order q ≡ false) → are_outside P (take (i - 1) order) ≡ true
before_outside P F set order i none within before =
    first_pass (λ l. not (P (variable l))) (i - 1) order (λ j lt inside.
    let other : (j + 1 == length order + 1) ≡ false = ne_eqb (j + 1) (length order + 1) (λ e. omega (arith, e, inside)) in
    let e : cond (j + 1 == length order + 1) (not (list_all (contains order) set)) (breaks_order F set (take (j + 1 - 1) order) (slice_index_or order (j + 1 - 1) (pos 0))) ≡ false =
    before (j + 1) (omega arith) (omega (arith, lt)) in
    let fine : breaks_order F set (take (j + 1 - 1) order) (slice_index_or order (j + 1 - 1) (pos 0)) ≡ false =
    sym (ap (λ (b : Bool). cond b (not (list_all (contains order) set)) (breaks_order F set (take (j + 1 - 1) order) (slice_index_or order (j + 1 - 1) (pos 0)))) other) ∙ e in
    let index : j + 1 - 1 ≡ j = omega arith in
    let held = in_set F set (take (j + 1 - 1) order) (slice_index_or order (j + 1 - 1) (pos 0)) fine in
    let there : contains set (slice_index_or order j (pos 0)) ≡ true = subst (λ (k : ℕ). contains set (slice_index_or order k (pos 0)) ≡ true) index held in
    not_from_false (P (variable (slice_index_or order j (pos 0)))) (set_literal_outside P set (slice_index_or order j (pos 0)) none there))

-- so the first bad index is the same
pub order_same : (P : Variables) (F : Cnf) (d : DoneDocument) (order : List ℤ) → SetsNone P (assignment_of d.set)
    → bad_order F d order ≡ bad_order (formula_without F P) (document_without d P) order
unfolding bad_order
order_same P F d order none =
    let found = found_first (is_bad_place F d.set order) (is_bad_place (formula_without F P) d.set order) 1 (length order + 1) (λ i low high before.
    let out = before_outside P F d.set order i none (omega (arith, high)) before in
    ap (λ (b : Bool). cond (i == length order + 1) (not (list_all (contains order) d.set)) b)
    (breaks_same P F d.set (take (i - 1) order) (slice_index_or order (i - 1) (pos 0)) none out)) in
    λ i. record { kind = BadOrder; place = found i }

-- STAGES

-- an unset variable has the value of no sign
no_value : (o s : Option Bool) → is_some o ≡ false → is_same_value o s ≡ true → s ≡ None
no_value None None u e = refl
no_value None (Some true) u e = absurd (let f : ⊥ = cc in f)
no_value None (Some false) u e = absurd (let f : ⊥ = cc in f)
no_value (Some b) s u e = absurd (let f : ⊥ = cc in f)

pub sign_same : (P : Variables) (F : Cnf) (d : DoneDocument) (stages : List Stage) → bad_sign F d stages ≡ bad_sign (formula_without F P) (document_without d P) stages
unfolding bad_sign
sign_same P F d stages = refl

-- where the signs are those of the set line, no stage weighs a variable of P
unweighted_on : (P : Variables) (F : Cnf) (d : DoneDocument) (stages : List Stage) → AreVariables F P → SetsNone P (assignment_of d.set)
    → (bad_sign F d stages).place ≡ None → map (masked P) (map weighting_of stages) ≡ map weighting_of stages
unfolding bad_sign
unweighted_on P F d stages vars none signs = all_masked P (map weighting_of stages) (λ v y.
    let b = and_true (nat_le 1 v) (nat_le v F.vars) (vars v y) in
    let same = not-false (is_same_value (assignment_of d.set v) (first_sign (map weighting_of stages) v))
    (none_to (λ v. not (is_same_value (assignment_of d.set v) (first_sign (map weighting_of stages) v))) F.vars v signs (leb-true 1 v b.0) (leb-true v F.vars b.1)) in
    no_value (assignment_of d.set v) (first_sign (map weighting_of stages) v) (none v y) same)

-- so the balances are the same
pub stage_same : (P : Variables) (F : Cnf) (d : DoneDocument) (stages : List Stage) → AreVariables F P → SetsNone P (assignment_of d.set)
    → (bad_sign F d stages).place ≡ None → bad_stage F d stages ≡ bad_stage (formula_without F P) (document_without d P) stages
unfolding bad_stage
stage_same P F d stages vars none signs =
    λ i. fails BadStage (sym (same_positions F P) i) (λ p. option_map_or (λ b. int_lt b (pos 0)) (balanced p i) false)
  where
    balanced : (p : ℕ) → first_balance (map weighting_of stages) (clause_at F p) ≡ first_balance (map weighting_of stages) (clause_at (formula_without F P) p)
    balanced p = sym (ap (first_balance (map weighting_of stages)) (clause_without F P p)
        ∙ first_balance_crossed P (map weighting_of stages) (clause_at F p)
        ∙ ap (λ (xs : List Weighting). first_balance xs (clause_at F p)) (unweighted_on P F d stages vars none signs))
