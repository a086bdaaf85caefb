-- Numbers at columns that solve rows: what they sum to against combined rows, and those with one column and the basic ones.
use Rattle.std.proofs.Common.{◌≡◌, ◌≢◌, ℕ, zero, suc, ◌+◌, ◌-◌, ◌<◌, ◌≤◌, inl, inr, true, cond, ◌==◌, List, [], ◌∷◌, ◌++◌, map, replicate, get_or, ℤ, pos, negsuc, ◌+ℤ◌, ◌-ℤ◌, ◌*ℤ◌, ◌<ℤ◌, ◌≤ℤ◌, refl, sym, ap, ◌∙◌, subst, eq-eqb, arith}
use Rattle.std.proofs.Math.Nat.{eq-or-lt_of_le}
use Rattle.std.proofs.Math.IntN.{*ℤ_comm, *ℤ-zero, zero-*ℤ}
use Rattle.std.proofs.lemmas.Bool.{ne_eqb}
use Rattle.std.proofs.lemmas.Int.{ints}
use Rattle.std.specs.List.{range_with_len}
use Rattle.lk_model.specs.Lists.{up_to, sum_of}
use Rattle.lk_model.specs.Linear.Rows.{TableauRows, entry, row_at, m_of, r_of, unit_column}
use Rattle.lk_model.specs.Linear.Pivot.{in_first_phase}
use Rattle.lk_model.proofs.Products.{mul_add, mul_assoc, times_least}
use Rattle.exact_pivot.specs.Reached.{IsRowOf, artificial_cost, Columns, total, Solves, IsCombined, ReachedRows}
use Rattle.exact_pivot.proofs.Wholes.{mul_sub, sub_mul, mixed_zero, times_some, cancel_least}
use Rattle.exact_pivot.proofs.Steps.{total_mixed}

-- AGAINST COMBINED ROWS

total_same : (us : List (ℕ × ℤ)) (f g : Columns) → ((k : ℕ) → f k ≡ g k) → total us f ≡ total us g
total_same [] f g e = refl
total_same (u ∷ us) f g e = λ i. e u.0 i *ℤ u.1 +ℤ total_same us f g e i

total_zero : (us : List (ℕ × ℤ)) → total us (λ k. pos 0) ≡ pos 0
total_zero [] = refl
total_zero (u ∷ us) = rw (zero-*ℤ u.1, total_zero us) refl

pub one_some : pos 0 <ℤ pos 1
one_some = omega (arith, ints)

-- multiples of rows that are solved
total_sum : (us : List (ℕ × ℤ)) (w : ℕ → ℤ) (rows : ℕ → Columns) (a n : ℕ) → ((j : ℕ) → a ≤ j → j < a + n → total us (rows j) ≡ pos 0)
    → total us (λ k. sum_of (map (λ j. w j *ℤ rows j k) (range_with_len a n))) ≡ pos 0
total_sum us w rows a zero f = total_zero us
total_sum us w rows a (suc n) f =
    let rest : Columns = λ k. sum_of (map (λ j. w j *ℤ rows j k) (range_with_len (a + 1) n)) in
    let whole : Columns = λ k. w a *ℤ rows a k +ℤ rest k in
    mixed_zero (pos 1) (w a) (negsuc 0) (total us whole) (total us (rows a)) (total us rest) one_some
    (total_mixed us rest (rows a) whole (pos 1) (w a) (negsuc 0) (λ k. added (w a *ℤ rows a k) (rest k)))
    (f a (omega arith) (omega arith)) (total_sum us w rows (a + 1) n (λ j h k. f j (omega (arith, h)) (omega (arith, k))))
  where
    added : (x y : ℤ) → pos 1 *ℤ (x +ℤ y) ≡ x -ℤ negsuc 0 *ℤ y
    added x y = omega (arith, ints)

pub total_combined : (us : List (ℕ × ℤ)) (s : TableauRows) (row : Columns) → Solves us s → IsCombined s row → total us row ≡ pos 0
total_combined us s row v c =
    total_same us row (λ k. sum_of (map (λ j. row (m_of s + j) *ℤ entry (row_at s j).entries k) (up_to (r_of s)))) c
    ∙ total_sum us (λ j. row (m_of s + j)) (λ j. entry (row_at s j).entries) 1 (r_of s) (λ j h k. v j (h, omega (arith, k)))

-- the cost row, of what solves the rows
pub total_cost : (us : List (ℕ × ℤ)) (s t : TableauRows) → ReachedRows s t → Solves us s
    → total us (entry t.cost) ≡ entry t.cost (unit_column t) *ℤ total us (entry (artificial_cost t))
total_cost us s t r v =
    let less : Columns = λ k. entry t.cost k -ℤ entry t.cost (unit_column t) *ℤ entry (artificial_cost t) k in
    apart _ (total us (entry t.cost)) _ (total_mixed us (entry (artificial_cost t)) (entry t.cost) less (pos 1) (pos 1) (entry t.cost (unit_column t)) (λ k. ones (entry t.cost k) (entry t.cost (unit_column t) *ℤ entry (artificial_cost t) k)))
    (total_combined us s less v r.cost_combined)
  where
    ones : (y z : ℤ) → pos 1 *ℤ (y -ℤ z) ≡ pos 1 *ℤ y -ℤ z
    ones y z = omega (arith, ints)

    apart : (x y z : ℤ) → pos 1 *ℤ x ≡ pos 1 *ℤ y -ℤ z → x ≡ pos 0 → y ≡ z
    apart x y z e f = omega (arith, ints, e, f)

-- ONE COLUMN AND THE BASIC ONES

-- a number in column k, and one in the basic column of each row
pub with_basic : TableauRows → ℕ → ℤ → (ℕ → ℤ) → List (ℕ × ℤ)
with_basic t k l q = (k, l) ∷ map (λ i. ((row_at t i).basic, q i)) (up_to (r_of t))

pub sum_none : (f : ℕ → ℤ) (a n : ℕ) → ((j : ℕ) → a ≤ j → j < a + n → f j ≡ pos 0) → sum_of (map f (range_with_len a n)) ≡ pos 0
sum_none f a zero e = refl
sum_none f a (suc n) e = rw (e a (omega arith) (omega arith), sum_none f (a + 1) n (λ j h k. e j (omega (arith, h)) (omega (arith, k)))) refl

pub sum_one : (f : ℕ → ℤ) (a n i : ℕ) → a ≤ i → i < a + n → ((j : ℕ) → a ≤ j → j < a + n → j ≢ i → f j ≡ pos 0) → sum_of (map f (range_with_len a n)) ≡ f i
sum_one f a zero i h k e = absurd (omega (arith, h, k))
sum_one f a (suc n) i h k e = elim (eq-or-lt_of_le h) [
  | inl same ↦ rw (sum_none f (a + 1) n (λ j g l. e j (omega (arith, g)) (omega (arith, l)) (λ o. omega (arith, o, g, same)))) (plus_none (f a) ∙ ap f same)
  | inr less ↦ rw (e a (omega arith) (omega arith) (λ o. omega (arith, o, less))) (none_plus _ ∙ sum_one f (a + 1) n i (omega (arith, less)) (omega (arith, k)) (λ j g l. e j (omega (arith, g)) (omega (arith, l))))
]
  where
    plus_none : (x : ℤ) → x +ℤ pos 0 ≡ x
    plus_none x = omega (arith, ints)

    none_plus : (x : ℤ) → pos 0 +ℤ x ≡ x
    none_plus x = omega (arith, ints)

pub sum_least : (f : ℕ → ℤ) (a n : ℕ) → ((j : ℕ) → a ≤ j → j < a + n → pos 0 ≤ℤ f j) → pos 0 ≤ℤ sum_of (map f (range_with_len a n))
sum_least f a zero e = omega (arith, ints)
sum_least f a (suc n) e = plus (f a) _ (e a (omega arith) (omega arith)) (sum_least f (a + 1) n (λ j h k. e j (omega (arith, h)) (omega (arith, k))))
  where
    plus : (x y : ℤ) → pos 0 ≤ℤ x → pos 0 ≤ℤ y → pos 0 ≤ℤ (x +ℤ y)
    plus x y h k = omega (arith, ints, h, k)

-- a sum against a row, by the rows' basic columns
pub total_basic : (t : TableauRows) (k : ℕ) (l : ℤ) (q : ℕ → ℤ) (row : Columns) (a n : ℕ)
    → total (map (λ i. ((row_at t i).basic, q i)) (range_with_len a n)) row ≡ sum_of (map (λ i. row (row_at t i).basic *ℤ q i) (range_with_len a n))
total_basic t k l q row a zero = refl
total_basic t k l q row a (suc n) = λ i. row (row_at t a).basic *ℤ q a +ℤ total_basic t k l q row (a + 1) n i

pub total_with_basic : (t : TableauRows) (k : ℕ) (l : ℤ) (q : ℕ → ℤ) (row : Columns)
    → total (with_basic t k l q) row ≡ row k *ℤ l +ℤ sum_of (map (λ i. row (row_at t i).basic *ℤ q i) (range_with_len 1 (r_of t)))
unfolding with_basic
total_with_basic t k l q row = ap (λ x. row k *ℤ l +ℤ x) (total_basic t k l q row 1 (r_of t))

pub basic_solves : (s t : TableauRows) (k : ℕ) (l : ℤ) (q : ℕ → ℤ) → ReachedRows s t
    → ((i : ℕ) → IsRowOf t i → entry (row_at t i).entries k *ℤ l +ℤ entry (row_at t i).entries (row_at t i).basic *ℤ q i ≡ pos 0) → Solves (with_basic t k l q) t
unfolding with_basic
basic_solves s t k l q r e i h =
    let row : Columns = entry (row_at t i).entries in
    ap (λ x. row k *ℤ l +ℤ x) (total_basic t k l q row 1 (r_of t) ∙ sum_one (λ j. row (row_at t j).basic *ℤ q j) 1 (r_of t) i h.0 (omega (arith, h))
    (λ j g m n. ap (λ x. x *ℤ q j) (r.basic_apart j i (g, omega (arith, m)) h (λ o. n (sym o))) ∙ zero-*ℤ (q j))) ∙ e i h

-- NUMBERS FOR THE BASIC COLUMNS

-- a positive number for a column with the entries h, and one for each basic entry p, that make each row 0
pub record Numbers (p h : ℕ → ℤ) (a n : ℕ) : Type 0 where
  pub l : ℤ
  pub l_some : pos 0 <ℤ l
  pub q : ℕ → ℤ
  pub each : (i : ℕ) → a ≤ i → i < a + n → h i *ℤ l +ℤ p i *ℤ q i ≡ pos 0

first_number : (h l p : ℤ) → h *ℤ (l *ℤ p) +ℤ p *ℤ (pos 0 -ℤ h *ℤ l) ≡ pos 0
first_number h l p =
    ap (λ z. z +ℤ p *ℤ (pos 0 -ℤ h *ℤ l)) (sym (mul_assoc h l p) ∙ *ℤ_comm (h *ℤ l) p) ∙ ap (λ z. p *ℤ (h *ℤ l) +ℤ z) (mul_sub p (pos 0) (h *ℤ l) ∙ ap (λ z. z -ℤ p *ℤ (h *ℤ l)) (*ℤ-zero p))
    ∙ opposite (p *ℤ (h *ℤ l))
  where
    opposite : (x : ℤ) → x +ℤ (pos 0 -ℤ x) ≡ pos 0
    opposite x = omega (arith, ints)

later_number : (h l p q m : ℤ) → h *ℤ l +ℤ p *ℤ q ≡ pos 0 → h *ℤ (l *ℤ m) +ℤ p *ℤ (q *ℤ m) ≡ pos 0
later_number h l p q m e =
    ap (λ z. z +ℤ p *ℤ (q *ℤ m)) (sym (mul_assoc h l m) ∙ *ℤ_comm (h *ℤ l) m) ∙ ap (λ z. m *ℤ (h *ℤ l) +ℤ z) (sym (mul_assoc p q m) ∙ *ℤ_comm (p *ℤ q) m)
    ∙ sym (mul_add m (h *ℤ l) (p *ℤ q)) ∙ ap (λ z. m *ℤ z) e ∙ *ℤ-zero m

pub numbers_for : (p h : ℕ → ℤ) (a n : ℕ) → ((i : ℕ) → a ≤ i → i < a + n → pos 0 <ℤ p i) → Numbers p h a n
numbers_for p h a zero some = record { l = pos 1; l_some = one_some; q = λ i. pos 0; each = λ i g k. absurd (omega (arith, g, k)) }
numbers_for p h a (suc n) some = more (numbers_for p h (a + 1) n (λ i g k. some i (omega (arith, g)) (omega (arith, k))))
  where
    more : Numbers p h (a + 1) n → Numbers p h a (suc n)
    more rest = record {
      l = rest.l *ℤ p a;
      l_some = times_some rest.l (p a) rest.l_some (some a (omega arith) (omega arith));
      q = λ i. cond (i == a) (pos 0 -ℤ h i *ℤ rest.l) (rest.q i *ℤ p a);
      each = λ i g k. elim (eq-or-lt_of_le g) [
        | inl same ↦ subst (λ j. h j *ℤ (rest.l *ℤ p a) +ℤ p j *ℤ cond (j == a) (pos 0 -ℤ h j *ℤ rest.l) (rest.q j *ℤ p a) ≡ pos 0) same (rw (eq-eqb a a refl) (first_number (h a) rest.l (p a)))
        | inr less ↦ rw (ne_eqb i a (λ o. omega (arith, o, less))) (later_number (h i) rest.l (p i) (rest.q i) (p a) (rest.each i (omega (arith, less)) (omega (arith, k))))
      ];
    }

-- the number for a basic column, where the entry is not positive
pub number_least : (h l p q : ℤ) → h *ℤ l +ℤ p *ℤ q ≡ pos 0 → h ≤ℤ pos 0 → pos 0 <ℤ l → pos 0 <ℤ p → pos 0 ≤ℤ q
number_least h l p q e low some more =
    cancel_least p q more (rest (h *ℤ l) (p *ℤ q) e (subst (λ z. pos 0 ≤ℤ z) (sub_mul (pos 0) h l ∙ ap (λ z. z -ℤ h *ℤ l) (zero-*ℤ l)) (times_least (pos 0 -ℤ h) l (opposite h low) (weak l some))))
  where
    weak : (x : ℤ) → pos 0 <ℤ x → pos 0 ≤ℤ x
    weak x g = omega (arith, ints, g)

    opposite : (x : ℤ) → x ≤ℤ pos 0 → pos 0 ≤ℤ (pos 0 -ℤ x)
    opposite x g = omega (arith, ints, g)

    rest : (x y : ℤ) → x +ℤ y ≡ pos 0 → pos 0 ≤ℤ (pos 0 -ℤ x) → pos 0 ≤ℤ y
    rest x y f g = omega (arith, ints, f, g)

-- THE ARTIFICIAL COST IS NOT NEGATIVE

AreLeast : List ℤ → Type 0
AreLeast xs = (i : ℕ) → pos 0 ≤ℤ get_or xs i (pos 0)

least_none : AreLeast []
unfolding AreLeast
least_none i = omega (arith, ints)

least_more : (x : ℤ) (xs : List ℤ) → pos 0 ≤ℤ x → AreLeast xs → AreLeast (x ∷ xs)
unfolding AreLeast
least_more x xs h k zero = h
least_more x xs h k (suc i) = k i

least_times : (n : ℕ) (x : ℤ) → pos 0 ≤ℤ x → AreLeast (replicate n x)
least_times zero x h = least_none
least_times (suc n) x h = least_more x (replicate n x) h (least_times n x h)

least_append : (xs ys : List ℤ) → AreLeast xs → AreLeast ys → AreLeast (xs ++ ys)
unfolding AreLeast
least_append [] ys h k i = k i
least_append (x ∷ xs) ys h k zero = h zero
least_append (x ∷ xs) ys h k (suc i) = least_append xs ys (λ n. h (suc n)) k i

pub artificial_least : (t : TableauRows) (k : ℕ) → pos 0 ≤ℤ entry (artificial_cost t) k
unfolding AreLeast
artificial_least t k =
    least_append (replicate (m_of t) (pos 0) ++ replicate (r_of t + 1) (pos 1)) (pos 0 ∷ [])
    (least_append (replicate (m_of t) (pos 0)) (replicate (r_of t + 1) (pos 1)) (least_times (m_of t) (pos 0) (omega (arith, ints))) (least_times (r_of t + 1) (pos 1) (omega (arith, ints))))
    (least_more (pos 0) [] (omega (arith, ints)) least_none) (k - 1)

-- A COLUMN THAT NO ROW LEAVES FOR

-- Of a column in which no row is positive, the number 1 and what the basic columns then have solve the rows, as a multiple
-- in whole numbers. None of the numbers is negative, and so the cost row, which they sum to a multiple of its entry in the
-- column, is not negative there.
pub cost_least : (s t : TableauRows) (k : ℕ) → ReachedRows s t → in_first_phase t ≡ true → ((i : ℕ) → IsRowOf t i → entry (row_at t i).entries k ≤ℤ pos 0)
    → pos 0 ≤ℤ entry t.cost k
unfolding with_basic
cost_least s t k r first low =
    let basic : ℕ → ℤ = λ i. entry (row_at t i).entries (row_at t i).basic in
    let here : ℕ → ℤ = λ i. entry (row_at t i).entries k in
    let n = numbers_for basic here 1 (r_of t) (λ i h g. r.basic_positive i (h, omega (arith, g))) in
    let us = with_basic t k n.l n.q in
    let solved : Solves us s = r.solves_start us (basic_solves s t k n.l n.q r (λ i h. n.each i h.0 (omega (arith, h)))) in
    let cost : total us (entry t.cost) ≡ entry t.cost k *ℤ n.l =
    ap (λ x. entry t.cost k *ℤ n.l +ℤ x) (total_basic t k n.l n.q (entry t.cost) 1 (r_of t) ∙ sum_none (λ i. entry t.cost (row_at t i).basic *ℤ n.q i) 1 (r_of t)
    (λ i h g. ap (λ x. x *ℤ n.q i) (r.basic_cost first i (h, omega (arith, g))) ∙ zero-*ℤ (n.q i))) ∙ plus_none (entry t.cost k *ℤ n.l) in
    let numbers : (i : ℕ) → 1 ≤ i → i < 1 + r_of t → pos 0 ≤ℤ n.q i =
    λ i h g. number_least (here i) n.l (basic i) (n.q i) (n.each i h g) (low i (h, omega (arith, g))) n.l_some (r.basic_positive i (h, omega (arith, g))) in
    let artificial : pos 0 ≤ℤ total us (entry (artificial_cost t)) =
    plus (entry (artificial_cost t) k *ℤ n.l) _ (times_least (entry (artificial_cost t) k) n.l (artificial_least t k) (weak n.l n.l_some))
    (subst (λ x. pos 0 ≤ℤ x) (sym (total_basic t k n.l n.q (entry (artificial_cost t)) 1 (r_of t)))
    (sum_least (λ i. entry (artificial_cost t) (row_at t i).basic *ℤ n.q i) 1 (r_of t) (λ i h g. times_least _ (n.q i) (artificial_least t (row_at t i).basic) (numbers i h g)))) in
    let whole : pos 0 ≤ℤ (entry t.cost k *ℤ n.l) =
    subst (λ x. pos 0 ≤ℤ x) (sym (total_cost us s t r solved) ∙ cost) (times_least (entry t.cost (unit_column t)) _ (weak (entry t.cost (unit_column t)) r.unit_positive) artificial) in
    cancel_least n.l (entry t.cost k) n.l_some (subst (λ x. pos 0 ≤ℤ x) (*ℤ_comm (entry t.cost k) n.l) whole)
  where
    plus_none : (x : ℤ) → x +ℤ pos 0 ≡ x
    plus_none x = omega (arith, ints)

    plus : (x y : ℤ) → pos 0 ≤ℤ x → pos 0 ≤ℤ y → pos 0 ≤ℤ (x +ℤ y)
    plus x y h k = omega (arith, ints, h, k)

    weak : (x : ℤ) → pos 0 <ℤ x → pos 0 ≤ℤ x
    weak x g = omega (arith, ints, g)
