-- In the second phase a row whose basic column is artificial has 0 on its right side.
use Rattle.std.proofs.Common.{◌≡◌, ℕ, zero, suc, ◌+◌, ◌-◌, ◌<◌, ◌≤◌, inl, inr, false, not, List, map, ℤ, pos, ◌+ℤ◌, ◌-ℤ◌, ◌*ℤ◌, ◌≤ℤ◌, sym, ap, ◌∙◌, subst, arith}
use Rattle.std.proofs.Math.Nat.{eq-or-lt_of_le}
use Rattle.std.proofs.Math.IntN.{*ℤ_comm, *ℤ-zero, zero-*ℤ}
use Rattle.std.proofs.lemmas.Int.{ints}
use Rattle.std.specs.List.{range_with_len}
use Rattle.lk_model.specs.Lists.{sum_of, is_zero}
use Rattle.lk_model.specs.Linear.Rows.{TableauRows, entry, row_at, m_of, r_of, unit_column, right_column}
use Rattle.lk_model.specs.Linear.Pivot.{in_first_phase}
use Rattle.lk_model.proofs.Products.{times_least}
use Rattle.exact_pivot.specs.Reached.{IsRowOf, artificial_cost, total, Solves, ReachedRows}
use Rattle.exact_pivot.proofs.Wholes.{mul_sub, sub_mul, cancel_zero}
use Rattle.exact_pivot.proofs.Artificials.{art_middle, art_last}
use Rattle.exact_pivot.proofs.Solutions.{total_cost, with_basic, total_with_basic, basic_solves, sum_none, sum_least, Numbers, numbers_for, number_least, artificial_least}

-- of numbers that are not negative and sum to 0, each is 0
sum_zero : (f : ℕ → ℤ) (a n : ℕ) → ((j : ℕ) → a ≤ j → j < a + n → pos 0 ≤ℤ f j) → sum_of (map f (range_with_len a n)) ≤ℤ pos 0 → (i : ℕ) → a ≤ i → i < a + n → f i ≡ pos 0
sum_zero f a zero least most i h k = absurd (omega (arith, h, k))
sum_zero f a (suc n) least most i h k = elim (eq-or-lt_of_le h) [
  | inl same ↦ subst (λ j. f j ≡ pos 0) same (first (f a) (sum_of (map f (range_with_len (a + 1) n))) (least a (omega arith) (omega arith)) (sum_least f (a + 1) n later) most)
  | inr less ↦ sum_zero f (a + 1) n later (second (f a) (sum_of (map f (range_with_len (a + 1) n))) (least a (omega arith) (omega arith)) (sum_least f (a + 1) n later) most) i (omega (arith, less)) (omega (arith, k))
]
  where
    later : (j : ℕ) → a + 1 ≤ j → j < a + 1 + n → pos 0 ≤ℤ f j
    later j g l = least j (omega (arith, g)) (omega (arith, l))

    first : (x y : ℤ) → pos 0 ≤ℤ x → pos 0 ≤ℤ y → (x +ℤ y) ≤ℤ pos 0 → x ≡ pos 0
    first x y g l e = omega (arith, ints, g, l, e)

    second : (x y : ℤ) → pos 0 ≤ℤ x → pos 0 ≤ℤ y → (x +ℤ y) ≤ℤ pos 0 → y ≤ℤ pos 0
    second x y g l e = omega (arith, ints, g, l, e)

-- a factor's sign moves to the other factor
sign_moves : (x l : ℤ) → x *ℤ (pos 0 -ℤ l) ≡ (pos 0 -ℤ x) *ℤ l
sign_moves x l = mul_sub x (pos 0) l ∙ ap (λ z. z -ℤ x *ℤ l) (*ℤ-zero x ∙ sym (zero-*ℤ l)) ∙ sym (sub_mul (pos 0) x l)

zero_is : (x : ℤ) → not (is_zero x) ≡ false → x ≡ pos 0
zero_is x e = grind (arith, ints)

-- The right side less what the basic columns have solves the rows. The cost row is 0 against it, and so is the artificial
-- cost, by parts that are not negative.
module _ (s t : TableauRows) (r : ReachedRows s t) (second : in_first_phase t ≡ false) where
  abbrev right : ℕ → ℤ
  right i = entry (row_at t i).entries (right_column t)

  abbrev basic : ℕ → ℤ
  basic i = entry (row_at t i).entries (row_at t i).basic

  abbrev less : ℕ → ℤ
  less i = pos 0 -ℤ right i

  numbers : Numbers basic less 1 (r_of t)
  numbers = numbers_for basic less 1 (r_of t) (λ i h g. r.basic_positive i (h, omega (arith, g)))

  each : (i : ℕ) → IsRowOf t i → less i *ℤ numbers.l +ℤ basic i *ℤ numbers.q i ≡ pos 0
  each i h = numbers.each i h.0 (omega (arith, h))

  us : List (ℕ × ℤ)
  us = with_basic t (right_column t) (pos 0 -ℤ numbers.l) numbers.q

  solved : Solves us s
  unfolding us
  solved = r.solves_start us (basic_solves s t (right_column t) (pos 0 -ℤ numbers.l) numbers.q r
      (λ i h. ap (λ z. z +ℤ basic i *ℤ numbers.q i) (sign_moves (right i) numbers.l) ∙ each i h))

  at_zero : (i : ℕ) → IsRowOf t i → right i ≡ pos 0 → numbers.q i ≡ pos 0
  at_zero i h e = cancel_zero (basic i) (numbers.q i) (r.basic_positive i h)
      (rest (less i *ℤ numbers.l) (basic i *ℤ numbers.q i) (each i h) (ap (λ z. (pos 0 -ℤ z) *ℤ numbers.l) e ∙ zero-*ℤ numbers.l))
    where
      rest : (x y : ℤ) → x +ℤ y ≡ pos 0 → x ≡ pos 0 → y ≡ pos 0
      rest x y f g = omega (arith, ints, f, g)

  plus_none : (x y : ℤ) → x ≡ pos 0 → y ≡ pos 0 → x +ℤ y ≡ pos 0
  plus_none x y e f = omega (arith, ints, e, f)

  cost : total us (entry t.cost) ≡ pos 0
  unfolding us
  cost = total_with_basic t (right_column t) (pos 0 -ℤ numbers.l) numbers.q (entry t.cost) ∙ plus_none _ _ (ap (λ z. z *ℤ (pos 0 -ℤ numbers.l)) (zero_is (entry t.cost (right_column t)) second) ∙ zero-*ℤ (pos 0 -ℤ numbers.l))
      (sum_none (λ i. entry t.cost (row_at t i).basic *ℤ numbers.q i) 1 (r_of t) none)
    where
      none : (i : ℕ) → 1 ≤ i → i < 1 + r_of t → entry t.cost (row_at t i).basic *ℤ numbers.q i ≡ pos 0
      none i h g = let within : IsRowOf t i = (h, omega (arith, g)) in elim (r.basic_rest i within) [
        | inl e ↦ ap (λ z. z *ℤ numbers.q i) e ∙ zero-*ℤ (numbers.q i)
        | inr e ↦ ap (λ z. entry t.cost (row_at t i).basic *ℤ z) (at_zero i within e) ∙ *ℤ-zero (entry t.cost (row_at t i).basic)
      ]

  artificial : total us (entry (artificial_cost t)) ≡ pos 0
  artificial = cancel_zero (entry t.cost (unit_column t)) _ r.unit_positive (sym (total_cost us s t r solved) ∙ cost)

  abbrev part : ℕ → ℤ
  part i = entry (artificial_cost t) (row_at t i).basic *ℤ numbers.q i

  parts : sum_of (map part (range_with_len 1 (r_of t))) ≡ pos 0
  unfolding us
  parts = rest _ _ (sym (total_with_basic t (right_column t) (pos 0 -ℤ numbers.l) numbers.q (entry (artificial_cost t))) ∙ artificial)
      (ap (λ z. z *ℤ (pos 0 -ℤ numbers.l)) (art_last (m_of t) (r_of t) 0 (right_column t - 1) (omega arith)) ∙ zero-*ℤ (pos 0 -ℤ numbers.l))
    where
      rest : (x y : ℤ) → x +ℤ y ≡ pos 0 → x ≡ pos 0 → y ≡ pos 0
      rest x y e f = omega (arith, ints, e, f)

  part_least : (j : ℕ) → 1 ≤ j → j < 1 + r_of t → pos 0 ≤ℤ part j
  part_least j h g = let within : IsRowOf t j = (h, omega (arith, g)) in
      times_least _ (numbers.q j) (artificial_least t (row_at t j).basic)
      (number_least (less j) numbers.l (basic j) (numbers.q j) (each j within) (opposite (right j) (r.right_least j within)) numbers.l_some (r.basic_positive j within))
    where
      opposite : (x : ℤ) → pos 0 ≤ℤ x → (pos 0 -ℤ x) ≤ℤ pos 0
      opposite x h = omega (arith, ints, h)

  pub artificial_right : (i : ℕ) → IsRowOf t i → m_of t < (row_at t i).basic → right i ≡ pos 0
  artificial_right i h a =
      let none : part i ≡ pos 0 = sum_zero part 1 (r_of t) part_least (weak _ parts) i h.0 (omega (arith, h)) in
      let most = r.basic_most i h in
      let one : entry (artificial_cost t) (row_at t i).basic ≡ pos 1 = art_middle (m_of t) (r_of t) ((row_at t i).basic - 1) (omega (arith, a)) (omega (arith, most)) in
      let number : numbers.q i ≡ pos 0 = sym (one_times (numbers.q i)) ∙ ap (λ z. z *ℤ numbers.q i) (sym one) ∙ none in
      back (right i) (cancel_zero numbers.l (less i) numbers.l_some (*ℤ_comm numbers.l (less i)
      ∙ rest (less i *ℤ numbers.l) (basic i *ℤ numbers.q i) (each i h) (ap (λ z. basic i *ℤ z) number ∙ *ℤ-zero (basic i))))
    where
      weak : (x : ℤ) → x ≡ pos 0 → x ≤ℤ pos 0
      weak x e = omega (arith, ints, e)

      one_times : (x : ℤ) → pos 1 *ℤ x ≡ x
      one_times x = omega (arith, ints)

      rest : (x y : ℤ) → x +ℤ y ≡ pos 0 → y ≡ pos 0 → x ≡ pos 0
      rest x y f g = omega (arith, ints, f, g)

      back : (x : ℤ) → pos 0 -ℤ x ≡ pos 0 → x ≡ pos 0
      back x e = omega (arith, ints, e)
