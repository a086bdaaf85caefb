-- What is found of an order is the first place at which it is bad.
use Rattle.std.proofs.Common.{◌≡◌, ◌∙◌, ℕ, zero, suc, ◌+◌, ◌-◌, ◌<◌, ◌≤◌, Bool, true, false, not, ◌||◌, List, length, get_or, take, refl, sym, ap, subst, arith, ℤ, pos, inl, inr, Some, None, length-take}
use Rattle.std.specs.Prelude.{find, ◌==◌}
use Rattle.std.specs.List.{list_any, list_all, range_with_len}
use Rattle.std.proofs.Math.Seq.{take-take}
use Rattle.std.proofs.lemmas.Bool.{cases_Bool, cases_eq, cond-true, cond-false, eq-eqb, ne_eqb}
use Rattle.std.proofs.lemmas.List.{get_or-take}
use Rattle.lk_model.specs.Lists.{up_to}
use Rattle.lk_model.specs.Formulas.Literal.{contains}
use Rattle.lk_model.specs.Formulas.Formula.{Cnf}
use Rattle.lk_model.specs.Checks.PureChecks.{breaks_order, bad_order}
use Rattle.lk_model.specs.declared.document.DoneDocument.{DoneDocument}
use Rattle.lk_model.proofs.Founds.{none_found, up_to_bounds}
use Rattle.pure_laws.proofs.Orders.{is_bad_place}
use Rattle.check_pure_matching.specs.Order.{first_broken, is_unsound, IsSoundCount}
use Rattle.check_pure_matching.proofs.OrderBreaks.{breaks, first_before, first_breaks}

-- FINDING IN A RANGE

found_in : (t : ℕ → Bool) (a n r : ℕ) → a ≤ r → r < a + n → t r ≡ true → ((i : ℕ) → a ≤ i → i < r → t i ≡ false) → Some r ≡ find t (range_with_len a n)
found_in t a zero r low high here before = absurd (omega (arith, low, high))
found_in t a (suc n) r low high here before = elim (cases_eq a r) [
  | inl same ↦ (let at : t a ≡ true = ap t same ∙ here in rw at (ap Some (sym same)))
  | inr other ↦ rw (before a (omega arith) (omega (arith, low, other))) (found_in t (a + 1) n r (omega (arith, low, other)) (omega (arith, high)) here (λ i le lt. before i (omega (arith, le)) lt))
]

-- the first number that passes
found_at : (t : ℕ → Bool) (n r : ℕ) → 1 ≤ r → r ≤ n → t r ≡ true → ((i : ℕ) → 1 ≤ i → i < r → t i ≡ false) → Some r ≡ find t (up_to n)
found_at t n r low high here before = found_in t 1 n r low (omega (arith, high)) here before

-- THE TEST OF THE CHECK

bad_order_is : (F : Cnf) (d : DoneDocument) (order : List ℤ) → (bad_order F d order).place ≡ find (is_bad_place F d.set order) (up_to (length order + 1))
unfolding bad_order
bad_order_is F d order = refl

-- at a literal's place
bad_literal : (F : Cnf) (set order : List ℤ) (j : ℕ) → j < length order → is_bad_place F set order (j + 1) ≡ breaks_order F set (take j order) (get_or order j (pos 0))
bad_literal F set order j lt =
    let at : (j + 1) - 1 ≡ j = omega arith in
    cond-false (j + 1 == length order + 1) _ _ (ne_eqb (j + 1) (length order + 1) (λ e. absurd (omega (arith, e, lt))))
    ∙ ap (λ (n : ℕ). breaks_order F set (take n order) (get_or order n (pos 0))) at

-- where a literal is new and in the set line, it is bad where a clause breaks the order
sound_literal : (F : Cnf) (set order : List ℤ) (j : ℕ) → j < length order → is_unsound set (take j order) (get_or order j (pos 0)) ≡ false
    → is_bad_place F set order (j + 1) ≡ list_any (breaks (take j order) (get_or order j (pos 0))) F.clauses
sound_literal F set order j lt sound =
    bad_literal F set order j lt ∙ ap (λ (b : Bool). b || list_any (breaks (take j order) (get_or order j (pos 0))) F.clauses) sound

-- the first literals of the order, seen by themselves
front : (F : Cnf) (order : List ℤ) (k j : ℕ) → j < k → list_any (breaks (take j (take k order)) (get_or (take k order) j (pos 0))) F.clauses ≡ list_any (breaks (take j order) (get_or order j (pos 0))) F.clauses
front F order k j lt =
    let a : take j (take k order) ≡ take j order = take-take j k order (omega (arith, lt)) in
    let b : get_or (take k order) j (pos 0) ≡ get_or order j (pos 0) = get_or-take k order j (pos 0) lt in
    rw (a, b) refl

front_length : (order : List ℤ) (k : ℕ) → k ≤ length order → length (take k order) ≡ k
front_length order k le = length-take k order ∙ omega (arith, le)

-- so no place before the first break of the first ones is bad
good_before : (F : Cnf) (set order : List ℤ) (k i : ℕ) → IsSoundCount set order k → 1 ≤ i → i ≤ k → i < first_broken (take k order) F.clauses → is_bad_place F set order i ≡ false
good_before F set order k i s low high less = elim (cases_Bool (is_bad_place F set order i)) [
  | inr good ↦ good
  | inl bad ↦
      let j : ℕ = i - 1 in
      let inside : j < k = omega (arith, low, high) in
      let at : j + 1 ≡ i = omega (arith, low) in
      let some : list_any (breaks (take j (take k order)) (get_or (take k order) j (pos 0))) F.clauses ≡ true =
      front F order k j inside ∙ sym (sound_literal F set order j (omega (arith, inside, s.within)) (s.sound j inside)) ∙ ap (is_bad_place F set order) at ∙ bad in
      let before = first_before (take k order) F.clauses j (omega (arith, inside, front_length order k s.within)) some in
      absurd (omega (arith, before, less, at))
]

-- the first break is bad
pub broken_found : (F : Cnf) (d : DoneDocument) (order : List ℤ) (k r : ℕ) → IsSoundCount d.set order k → r ≡ first_broken (take k order) F.clauses → r ≤ k → Some r ≡ (bad_order F d order).place
broken_found F d order k r s is le =
    let w = first_breaks (take k order) F.clauses (omega (arith, is, le, front_length order k s.within)) in
    let first : 1 ≤ r = omega (arith, is, w.first) in
    let j : ℕ = r - 1 in
    let inside : j < k = omega (arith, first, le) in
    let at : j + 1 ≡ r = omega (arith, first) in
    let here : is_bad_place F d.set order r ≡ true =
    ap (is_bad_place F d.set order) (sym at) ∙ sound_literal F d.set order j (omega (arith, inside, s.within)) (s.sound j inside) ∙ sym (front F order k j inside)
    ∙ subst (λ (n : ℕ). list_any (breaks (take (n - 1) (take k order)) (get_or (take k order) (n - 1) (pos 0))) F.clauses ≡ true) (sym is) w.here in
    found_at (is_bad_place F d.set order) (length order + 1) r first (omega (arith, le, s.within)) here (λ i low lt. good_before F d.set order k i s low (omega (arith, lt, le)) (omega (arith, lt, is)))
    ∙ sym (bad_order_is F d order)

-- where none of the first ones breaks, the place behind them is bad where it has a literal
pub unsound_found : (F : Cnf) (d : DoneDocument) (order : List ℤ) (k : ℕ) → IsSoundCount d.set order k → k < first_broken (take k order) F.clauses → k < length order → Some (k + 1) ≡ (bad_order F d order).place
unsound_found F d order k s less lt =
    let here : is_bad_place F d.set order (k + 1) ≡ true = bad_literal F d.set order k lt ∙ ap (λ (b : Bool). b || list_any (breaks (take k order) (get_or order k (pos 0))) F.clauses) (s.stops lt) in
    found_at (is_bad_place F d.set order) (length order + 1) (k + 1) (omega arith) (omega (arith, lt)) here (λ i low l. good_before F d.set order k i s low (omega (arith, l)) (omega (arith, l, less)))
    ∙ sym (bad_order_is F d order)

-- the place behind the last literal
behind_last : (F : Cnf) (set order : List ℤ) (i : ℕ) → i ≡ length order + 1 → is_bad_place F set order i ≡ not (list_all (contains order) set)
behind_last F set order i e = cond-true (i == length order + 1) _ _ (eq-eqb i (length order + 1) e)

-- and it is bad where a literal of the set line is missing
pub missing_found : (F : Cnf) (d : DoneDocument) (order : List ℤ) (k : ℕ) → IsSoundCount d.set order k → k < first_broken (take k order) F.clauses → length order ≤ k → list_all (contains order) d.set ≡ false
    → Some (k + 1) ≡ (bad_order F d order).place
missing_found F d order k s less all missing =
    let last : k + 1 ≡ length order + 1 = omega (arith, all, s.within) in
    let here : is_bad_place F d.set order (k + 1) ≡ true = behind_last F d.set order (k + 1) last ∙ ap not missing in
    found_at (is_bad_place F d.set order) (length order + 1) (k + 1) (omega arith) (omega (arith, last)) here (λ i low l. good_before F d.set order k i s low (omega (arith, l)) (omega (arith, l, less)))
    ∙ sym (bad_order_is F d order)

-- else no place is bad
pub none_bad : (F : Cnf) (d : DoneDocument) (order : List ℤ) (k : ℕ) → IsSoundCount d.set order k → k < first_broken (take k order) F.clauses → length order ≤ k → list_all (contains order) d.set ≡ true
    → None ≡ (bad_order F d order).place
none_bad F d order k s less all there =
    sym (bad_order_is F d order ∙ none_found (is_bad_place F d.set order) (up_to (length order + 1)) (λ i among.
    let b = up_to_bounds (length order + 1) i among in
    elim (cases_eq i (length order + 1)) [
      | inl last ↦ behind_last F d.set order i last ∙ ap not there
      | inr before ↦ good_before F d.set order k i s b.0 (omega (arith, b.1, before, all)) (omega (arith, b.1, before, all, less))
    ]))
