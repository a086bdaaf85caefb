-- Some row leaves, where one may: the best of the rows, found one after another.
use Rattle.std.proofs.Common.{◌≡◌, ℕ, zero, suc, ◌+◌, ◌-◌, ◌≤◌, inl, inr, Bool, true, false, ltb, [], get_or, ℤ, pos, ◌≤ℤ◌, ◌<ℤ◌, int_lt, Option, Some, None, refl, sym, subst, arith}
use Rattle.std.proofs.Math.Nat.{eq-or-lt_of_le}
use Rattle.std.proofs.lemmas.Bool.{ltb-true, ltb-false, both_ways}
use Rattle.std.proofs.lemmas.Int.{ints}
use Rattle.std.proofs.lemmas.List.{get_or_past}
use Rattle.lk_model.specs.Linear.Rows.{TableauRows, entry, row_at, m_of, r_of, right_column}
use Rattle.lk_model.specs.Linear.Pivot.{in_first_phase}
use Rattle.lk_model.specs.Linear.Phases.{entering, leaving, may_leave, leaves_before}
use Rattle.lk_model.proofs.Booleans.{or_false}
use Rattle.exact_pivot.specs.Best.{LeavesBelow, IsBest}
use Rattle.exact_pivot.specs.Reached.{IsRowOf, ReachedRows}
use Rattle.exact_pivot.proofs.Finds.{find_says}
use Rattle.exact_pivot.proofs.Leaving.{HasRights, leaves_self, new_best, found, keys}
use Rattle.exact_pivot.proofs.Solutions.{cost_least}
use Rattle.exact_pivot.proofs.Steps.{IsLeast}

-- with one more row that may not leave, or does not leave before the best
kept_best : (t : TableauRows) (k n b : ℕ) → LeavesBelow t k (suc n) b → (may_leave t k (suc n) ≡ true → leaves_before t k b (suc n) ≡ false) → LeavesBelow t k (suc (suc n)) b
kept_best t k n b best last = record {
  least = best.least;
  below = omega (arith, best.below);
  may = best.may;
  first = λ j h g m. elim (eq-or-lt_of_le (let most : j ≤ suc n = omega (arith, g) in most)) [
    | inl same ↦ subst (λ x. leaves_before t k b x ≡ false) (sym same) (last (subst (λ x. may_leave t k x ≡ true) same m))
    | inr less ↦ best.first j h less m
  ];
  over = best.over;
}

next_best : (t : TableauRows) (k : ℕ) → HasRights t → (n : ℕ) (best : Option ℕ) → IsBest t k (suc n) best → (m : Bool) → may_leave t k (suc n) ≡ m
    → (next : Option ℕ) × IsBest t k (suc (suc n)) next
next_best t k rights n None none false e = (
  None,
  λ j h g. elim (eq-or-lt_of_le (let most : j ≤ suc n = omega (arith, g) in most)) [
    | inl same ↦ subst (λ x. may_leave t k x ≡ false) (sym same) e
    | inr less ↦ none j h less
  ],
)
next_best t k rights n None none true e = (
  Some (suc n),
  record {
    least = omega arith;
    below = omega arith;
    may = e;
    first = λ j h g m. elim (eq-or-lt_of_le (let most : j ≤ suc n = omega (arith, g) in most)) [
      | inl same ↦ subst (λ x. leaves_before t k (suc n) x ≡ false) (sym same) (leaves_self t k (suc n) (keys t k (suc n) rights e) (leaves_before t k (suc n) (suc n)) refl)
      | inr less ↦ absurd (both_ways (may_leave t k j) (none j h less) m)
    ];
    over = λ j h g m. absurd (both_ways (may_leave t k j) (none j h g) m);
  },
)
next_best t k rights n (Some b) best false e = (Some b, kept_best t k n b best (λ m. absurd (both_ways (may_leave t k (suc n)) e m)))
next_best t k rights n (Some b) best true e = by_order (leaves_before t k b (suc n)) refl
  where
    by_order : (l : Bool) → leaves_before t k b (suc n) ≡ l → (next : Option ℕ) × IsBest t k (suc (suc n)) next
    by_order true f = (Some (suc n), subst (λ x. LeavesBelow t k x (suc n)) (let more : suc n + 1 ≡ suc (suc n) = omega arith in more) (new_best t k (suc n) b rights (omega arith) e best f))
    by_order false f = (Some b, kept_best t k n b best (λ m. f))

best_of : (t : TableauRows) (k : ℕ) → HasRights t → (n : ℕ) → (best : Option ℕ) × IsBest t k (suc n) best
best_of t k rights zero = (None, λ j h g. absurd (omega (arith, h, g)))
best_of t k rights (suc n) = let before = best_of t k rights n in next_best t k rights n before.0 before.1 (may_leave t k (suc n)) refl

pub has_rights : (s t : TableauRows) → ReachedRows s t → HasRights t
has_rights s t r i = by_place (ltb (i - 1) (r_of t)) refl
  where
    by_place : (b : Bool) → ltb (i - 1) (r_of t) ≡ b → pos 0 ≤ℤ entry (row_at t i).entries (right_column t)
    by_place true e =
        let within = ltb-true (i - 1) (r_of t) e in
        let same : i - 1 + 1 - 1 ≡ i - 1 = omega arith in
        subst (λ n. pos 0 ≤ℤ entry (get_or t.rows n (record { entries = []; basic = 0 })).entries (right_column t)) same (r.right_least (i - 1 + 1) (omega arith, omega (arith, within)))
    by_place false e =
        let past = ltb-false (i - 1) (r_of t) e in
        let none : row_at t i ≡ record { entries = []; basic = 0 } = get_or_past t.rows (i - 1) (record { entries = []; basic = 0 }) (omega (arith, past, r.rows)) in
        rw none (omega (arith, ints))

-- the row that leaves
pub record Leaves (t : TableauRows) (k : ℕ) : Type 0 where
  pub row : ℕ
  pub is : leaving t k ≡ Some row
  pub within : IsRowOf t row
  pub least : IsLeast t row k

leaves_at : (t : TableauRows) (k b : ℕ) → LeavesBelow t k (r_of t + 1) b → Leaves t k
leaves_at t k b best = record {
  row = b;
  is = sym (found t k (Some b) best);
  within = (best.least, omega (arith, best.below));
  least = record {
    positive = above (entry (row_at t b).entries k) best.may;
    least = λ j h some. not_less _ _ (or_false _ _ (best.first j h.0 (omega (arith, h)) (below (entry (row_at t j).entries k) some))).0;
  };
}
  where
    above : (z : ℤ) → int_lt (pos 0) z ≡ true → pos 0 <ℤ z
    above z e = omega (arith, ints, e)

    below : (z : ℤ) → pos 0 <ℤ z → int_lt (pos 0) z ≡ true
    below z h = by_test (int_lt (pos 0) z) refl
      where
        by_test : (b : Bool) → int_lt (pos 0) z ≡ b → b ≡ true
        by_test true e = refl
        by_test false e = absurd (omega (arith, ints, e, h))

    not_less : (x y : ℤ) → int_lt x y ≡ false → y ≤ℤ x
    not_less x y e = omega (arith, ints, e)

-- In the first phase some row leaves for the column that enters: the cost row is negative there, and would not be if no row
-- were positive.
pub some_leaves : (s t : TableauRows) (k : ℕ) → ReachedRows s t → in_first_phase t ≡ true → entering t ≡ Some k → Leaves t k
some_leaves s t k r first e = let best = best_of t k (has_rights s t r) (r_of t) in by_best best.0 best.1
  where
    negative : entry t.cost k <ℤ pos 0
    negative = below (entry t.cost k) (find_says (λ x. int_lt (entry t.cost x) (pos 0)) 1 (m_of t + r_of t) k e).passes
      where
        below : (z : ℤ) → int_lt z (pos 0) ≡ true → z <ℤ pos 0
        below z f = omega (arith, ints, f)

    not_above : (z : ℤ) → int_lt (pos 0) z ≡ false → z ≤ℤ pos 0
    not_above z f = omega (arith, ints, f)

    by_best : (best : Option ℕ) → IsBest t k (suc (r_of t)) best → Leaves t k
    by_best None none =
        let least = cost_least s t k r first (λ i h. not_above (entry (row_at t i).entries k) (none i h.0 (omega (arith, h)))) in
        absurd (omega (arith, ints, least, negative))
    by_best (Some b) best = leaves_at t k b (subst (λ n. LeavesBelow t k n b) (let more : suc (r_of t) ≡ r_of t + 1 = omega arith in more) best)
