-- The rows after a pivot, and what of the rows before it they keep.
use Rattle.std.proofs.Common.{◌≡◌, ◌≢◌, ℕ, zero, suc, ◌+◌, ◌-◌, ◌<◌, ◌≤◌, ◌⊎◌, inl, inr, Bool, true, false, cond, List, map, length, get_or, ℤ, pos, negsuc, neg_ℤ, ◌-ℤ◌, ◌*ℤ◌, ◌<ℤ◌, ◌≤ℤ◌, int_lt, refl, sym, ap, ◌∙◌, subst, eq-eqb, arith}
use Rattle.std.proofs.Math.IntN.{*ℤ_comm, *ℤ-zero, zero-*ℤ}
use Rattle.std.proofs.lemmas.Bool.{ne_eqb, cases_eq}
use Rattle.std.proofs.lemmas.Int.{ints}
use Rattle.std.proofs.lemmas.List.FromFn.{length-map-range_with_len, get_or-map-range_with_len}
use Rattle.lk_model.specs.Lists.{up_to, sum_of, is_nonzero}
use Rattle.lk_model.specs.Linear.Rows.{Row, TableauRows, entry, row_at, m_of, r_of, artificial, unit_column, right_column}
use Rattle.lk_model.specs.Linear.Pivot.{in_first_phase, turned, cleared, row_after, pivoted}
use Rattle.lk_model.proofs.Products.{mul_assoc, times_least}
use Rattle.exact_pivot.specs.Reached.{IsRowOf, artificial_cost, Columns, total, Solves, IsCombined, ReachedRows, IsPivot}
use Rattle.exact_pivot.proofs.Wholes.{one_mul, mul_sub, cancel, cancel_least, mixed_sum, mixed_zero, mixed_first, mixed_some, mixed_back}
use Rattle.exact_pivot.proofs.Clearing.{IsCleared, cleared_clears, IsTurned, turned_turns, turned_width}

-- FACTS THAT A MIXED ROW KEEPS

-- a row that is mixed from combined ones is combined
pub combined_mixed : (s : TableauRows) (by row new : Columns) → (c a b : ℤ) → pos 0 <ℤ c → ((x : ℕ) → c *ℤ new x ≡ a *ℤ row x -ℤ b *ℤ by x)
    → IsCombined s row → IsCombined s by → IsCombined s new
combined_mixed s by row new c a b some at first second k =
    let column : Columns = λ j. entry (row_at s j).entries k in
    let sums = mixed_sum c a b (λ j. new (artificial s j)) (λ j. row (artificial s j)) (λ j. by (artificial s j)) column (up_to (r_of s)) (λ j. at (artificial s j)) in
    cancel c (new k) _ some (at k ∙ ap (λ z. a *ℤ z -ℤ b *ℤ by k) (first k) ∙ ap (λ z. a *ℤ sum_of (map (λ j. row (artificial s j) *ℤ column j) (up_to (r_of s))) -ℤ b *ℤ z) (second k) ∙ sym sums)

pub total_mixed : (us : List (ℕ × ℤ)) (by row new : Columns) → (c a b : ℤ) → ((x : ℕ) → c *ℤ new x ≡ a *ℤ row x -ℤ b *ℤ by x)
    → c *ℤ total us new ≡ a *ℤ total us row -ℤ b *ℤ total us by
total_mixed us by row new c a b at = mixed_sum c a b (λ u. new u.0) (λ u. row u.0) (λ u. by u.0) (λ u. u.1) us (λ u. at u.0)

-- a turned row is mixed with nothing
turned_mixed : (by row : Columns) (e : ℤ) → ((x : ℕ) → by x ≡ e *ℤ row x) → (x : ℕ) → pos 1 *ℤ by x ≡ e *ℤ row x -ℤ pos 0 *ℤ row x
turned_mixed by row e at x = one_mul (by x) ∙ at x ∙ nothing (e *ℤ row x) (row x)
  where
    nothing : (y z : ℤ) → y ≡ y -ℤ pos 0 *ℤ z
    nothing y z = omega (arith, ints)

one_some : pos 0 <ℤ pos 1
one_some = omega (arith, ints)

combined_turned : (s : TableauRows) (by row : Columns) → IsTurned by row → IsCombined s row → IsCombined s by
combined_turned s by row t c = combined_mixed s row row by (pos 1) t.sign (pos 0) one_some (turned_mixed by row t.sign t.at) c c

zero_turned : (by row : Columns) (e : ℤ) (x : ℕ) → by x ≡ e *ℤ row x → row x ≡ pos 0 → by x ≡ pos 0
zero_turned by row e x at z = mixed_zero (pos 1) e (pos 0) (by x) (row x) (row x) one_some (one_mul (by x) ∙ at ∙ nothing (e *ℤ row x) (row x)) z z
  where
    nothing : (y z : ℤ) → y ≡ y -ℤ pos 0 *ℤ z
    nothing y z = omega (arith, ints)

total_turned : (us : List (ℕ × ℤ)) (by row : Columns) (e : ℤ) → ((x : ℕ) → by x ≡ e *ℤ row x) → total us row ≡ pos 0 → total us by ≡ pos 0
total_turned us by row e at z =
    mixed_zero (pos 1) e (pos 0) (total us by) (total us row) (total us row) one_some (total_mixed us row row by (pos 1) e (pos 0) (turned_mixed by row e at)) z z

-- a column that is cleared
meet : (c a b n f p : ℤ) → c *ℤ n ≡ a *ℤ f -ℤ b *ℤ p → n ≡ pos 0 → a *ℤ f ≡ b *ℤ p
meet c a b n f p at none = same (a *ℤ f) (b *ℤ p) (sym at ∙ rw none (*ℤ-zero c))
  where
    same : (x y : ℤ) → x -ℤ y ≡ pos 0 → x ≡ y
    same x y e = omega (arith, ints, e)

-- with the column at 0 in the new row: its right side stays at least 0 where the quotient of the row by which it is cleared
-- is at most its own
mixed_least : (c a b n y z f p : ℤ) → pos 0 <ℤ c → pos 0 <ℤ a → c *ℤ n ≡ a *ℤ y -ℤ b *ℤ z → a *ℤ f ≡ b *ℤ p → pos 0 <ℤ p → pos 0 ≤ℤ y → pos 0 ≤ℤ z
    → (pos 0 <ℤ f → (z *ℤ f) ≤ℤ (y *ℤ p)) → pos 0 ≤ℤ n
mixed_least c a b n y z f p above some at meet ps ys zs order =
    cancel_least c n above (cancel_least p (c *ℤ n) ps (subst (λ w. pos 0 ≤ℤ w) (sym product) (times_least a (p *ℤ y -ℤ f *ℤ z) (weak a some) (by_sign f (int_lt (pos 0) f) refl order))))
  where
    weak : (x : ℤ) → pos 0 <ℤ x → pos 0 ≤ℤ x
    weak x h = omega (arith, ints, h)

    product : p *ℤ (c *ℤ n) ≡ a *ℤ (p *ℤ y -ℤ f *ℤ z)
    product = ap (λ w. p *ℤ w) at ∙ mul_sub p (a *ℤ y) (b *ℤ z)
        ∙ ap (λ w. w -ℤ p *ℤ (b *ℤ z)) (sym (mul_assoc p a y) ∙ ap (λ w. w *ℤ y) (*ℤ_comm p a) ∙ mul_assoc a p y)
        ∙ ap (λ w. a *ℤ (p *ℤ y) -ℤ w) (sym (mul_assoc p b z) ∙ ap (λ w. w *ℤ z) (*ℤ_comm p b ∙ sym meet) ∙ mul_assoc a f z)
        ∙ sym (mul_sub a (p *ℤ y) (f *ℤ z))

    less : (v w : ℤ) → v ≤ℤ w → pos 0 ≤ℤ (w -ℤ v)
    less v w h = omega (arith, ints, h)

    plus : (v w : ℤ) → pos 0 ≤ℤ v → pos 0 ≤ℤ neg_ℤ w → pos 0 ≤ℤ (v -ℤ w)
    plus v w h k = omega (arith, ints, h, k)

    by_sign : (f : ℤ) (t : Bool) → int_lt (pos 0) f ≡ t → (pos 0 <ℤ f → (z *ℤ f) ≤ℤ (y *ℤ p)) → pos 0 ≤ℤ (p *ℤ y -ℤ f *ℤ z)
    by_sign f true e o = less (f *ℤ z) (p *ℤ y)
        (subst (λ w. w ≤ℤ (p *ℤ y)) (*ℤ_comm z f) (subst (λ w. (z *ℤ f) ≤ℤ w) (*ℤ_comm y p) (o (omega (arith, ints, e)))))
    by_sign f false e o = plus (p *ℤ y) (f *ℤ z) (times_least p y (weak p ps) ys) (negative f z e zs)
      where
        negative : (f z : ℤ) → int_lt (pos 0) f ≡ false → pos 0 ≤ℤ z → pos 0 ≤ℤ neg_ℤ (f *ℤ z)
        negative (pos zero) z e h = rw (zero-*ℤ z) (omega (arith, ints))
        negative (pos (suc n)) z e h = absurd (omega (arith, ints, e))
        negative (negsuc n) (pos m) e h = omega (arith, ints)
        negative (negsuc n) (negsuc m) e h = absurd (omega (arith, ints, h))

-- a cost row less its unit times a fixed row, where the unit is not changed by the row by which it is cleared
mixed_cost : (c a b d e y u v f : ℤ) → c *ℤ d ≡ a *ℤ e -ℤ b *ℤ y → c *ℤ u ≡ a *ℤ v → c *ℤ (d -ℤ u *ℤ f) ≡ a *ℤ (e -ℤ v *ℤ f) -ℤ b *ℤ y
mixed_cost c a b d e y u v f at unit =
    mul_sub c d (u *ℤ f) ∙ ap (λ z. z -ℤ c *ℤ (u *ℤ f)) at
    ∙ ap (λ z. a *ℤ e -ℤ b *ℤ y -ℤ z) (sym (mul_assoc c u f) ∙ ap (λ z. z *ℤ f) unit ∙ mul_assoc a v f)
    ∙ other_order (a *ℤ e) (b *ℤ y) (a *ℤ (v *ℤ f)) ∙ ap (λ z. z -ℤ b *ℤ y) (sym (mul_sub a e (v *ℤ f)))
  where
    other_order : (x y z : ℤ) → x -ℤ y -ℤ z ≡ x -ℤ z -ℤ y
    other_order x y z = omega (arith, ints)

-- THE ROWS AFTER A PIVOT

-- row i is turned and has k as its basic column, each other row is cleared, and so is the cost row in the first phase
pub record IsStep (t : TableauRows) (i k : ℕ) (rows : List Row) (cost : List ℤ) : Type 0 where
  pub count : length rows ≡ r_of t
  pub here : row_at (record t { rows = rows; cost = cost }) i ≡ record { entries = turned t i k; basic = k }
  pub other : (j : ℕ) → IsRowOf t j → j ≢ i → row_at (record t { rows = rows; cost = cost }) j ≡ record { entries = cleared (turned t i k) k (row_at t j).entries; basic = (row_at t j).basic }
  pub first : in_first_phase t ≡ true → cost ≡ cleared (turned t i k) k t.cost
  pub second : in_first_phase t ≡ false → cost ≡ t.cost

row_after_here : (t : TableauRows) (i k : ℕ) → row_after t i k i ≡ record { entries = turned t i k; basic = k }
row_after_here t i k = rw (eq-eqb i i refl) refl

row_after_other : (t : TableauRows) (i k j : ℕ) → j ≢ i → row_after t i k j ≡ record { entries = cleared (turned t i k) k (row_at t j).entries; basic = (row_at t j).basic }
row_after_other t i k j n = rw (ne_eqb j i n) refl

rows_after_at : (t : TableauRows) (i k j : ℕ) (d : Row) → IsRowOf t j → get_or (map (row_after t i k) (up_to (r_of t))) (j - 1) d ≡ row_after t i k j
rows_after_at t i k j d h = get_or-map-range_with_len (row_after t i k) 1 (r_of t) (j - 1) j d (omega (arith, h)) (omega (arith, h))

step_of : (t : TableauRows) (i k : ℕ) → IsRowOf t i
    → IsStep t i k (map (row_after t i k) (up_to (r_of t))) (cond (in_first_phase t) (cleared (turned t i k) k t.cost) t.cost)
step_of t i k h = record {
  count = length-map-range_with_len (row_after t i k) 1 (r_of t);
  here = rows_after_at t i k i _ h ∙ row_after_here t i k;
  other = λ j l n. rows_after_at t i k j _ l ∙ row_after_other t i k j n;
  first = λ e. rw e refl;
  second = λ e. rw e refl;
}

-- what a pivot on row i is in the first phase: row i may leave, and none that may leave has a lesser quotient
pub record IsLeast (t : TableauRows) (i k : ℕ) : Type 0 where
  pub positive : pos 0 <ℤ entry (row_at t i).entries k
  pub least : (j : ℕ) → IsRowOf t j → pos 0 <ℤ entry (row_at t j).entries k
      → (entry (row_at t i).entries (right_column t) *ℤ entry (row_at t j).entries k) ≤ℤ (entry (row_at t j).entries (right_column t) *ℤ entry (row_at t i).entries k)

not_turned : (t : TableauRows) (i k : ℕ) → pos 0 <ℤ entry (row_at t i).entries k → turned t i k ≡ (row_at t i).entries
not_turned t i k h = by_test (int_lt (entry (row_at t i).entries k) (pos 0)) refl
  where
    by_test : (b : Bool) → int_lt (entry (row_at t i).entries k) (pos 0) ≡ b → cond b (map neg_ℤ (row_at t i).entries) (row_at t i).entries ≡ (row_at t i).entries
    by_test true e = absurd (omega (arith, ints, e, h))
    by_test false e = refl

module _ (s t : TableauRows) (i k : ℕ) (rows : List Row) (cost : List ℤ) (r : ReachedRows s t) (p : IsPivot t i k) (leaves : in_first_phase t ≡ true → IsLeast t i k)
    (stands : in_first_phase t ≡ false → entry (row_at t i).entries (right_column t) ≡ pos 0)
    (step : IsStep t i k rows cost) where
  abbrev new : TableauRows
  new = record t { rows = rows; cost = cost }

  abbrev by : Columns
  by = entry (turned t i k)

  abbrev row : ℕ → Columns
  row j = entry (row_at t j).entries

  turns : IsTurned by (row i)
  turns = turned_turns (int_lt (entry (row_at t i).entries k) (pos 0)) (row_at t i).entries

  by_width : length (turned t i k) ≡ right_column t
  by_width = turned_width (int_lt (entry (row_at t i).entries k) (pos 0)) (row_at t i).entries ∙ r.widths i p.row

  -- a row other than the pivot's, with the row that it becomes
  after : (j : ℕ) → IsRowOf t j → IsCleared (turned t i k) k (row_at t j).entries (cleared (turned t i k) k (row_at t j).entries)
  after j h = cleared_clears (turned t i k) k (row_at t j).entries (r.widths j h ∙ sym by_width) p.positive

  cost_after : IsCleared (turned t i k) k t.cost (cleared (turned t i k) k t.cost)
  cost_after = cleared_clears (turned t i k) k t.cost (r.cost_width ∙ sym by_width) p.positive

  -- the columns in which row i is 0
  by_apart : (j : ℕ) → IsRowOf t j → j ≢ i → by (row_at t j).basic ≡ pos 0
  by_apart j h n = zero_turned by (row i) turns.sign (row_at t j).basic (turns.at (row_at t j).basic) (r.basic_apart j i h p.row (λ e. n (sym e)))

  by_unit : by (unit_column t) ≡ pos 0
  by_unit = zero_turned by (row i) turns.sign (unit_column t) (turns.at (unit_column t)) (r.unit_apart i p.row)

  -- what is to be shown of a new row: of the row by which the others are cleared, and of each of those
  each : (P : ℕ → Row → Type 0) → P i (record { entries = turned t i k; basic = k })
      → ((j : ℕ) → IsRowOf t j → j ≢ i → P j (record { entries = cleared (turned t i k) k (row_at t j).entries; basic = (row_at t j).basic }))
      → (j : ℕ) → IsRowOf t j → P j (row_at new j)
  each P first others j h = elim (cases_eq j i) [
    | inl same ↦ subst (λ n. P n (row_at new n)) (sym same) (subst (P i) (sym step.here) first)
    | inr apart ↦ subst (P j) (sym (step.other j h apart)) (others j h apart)
  ]

  widths_kept : (j : ℕ) → IsRowOf t j → length (row_at new j).entries ≡ right_column t
  widths_kept = each (λ j (x : Row). length x.entries ≡ right_column t) by_width (λ j h n. (after j h).width ∙ r.widths j h)

  cost_width_kept : length cost ≡ right_column t
  cost_width_kept = by_phase (in_first_phase t) refl
    where
      by_phase : (b : Bool) → in_first_phase t ≡ b → length cost ≡ right_column t
      by_phase true e = ap length (step.first e) ∙ cost_after.width ∙ r.cost_width
      by_phase false e = ap length (step.second e) ∙ r.cost_width

  basic_least_kept : (j : ℕ) → IsRowOf t j → 0 < (row_at new j).basic
  basic_least_kept = each (λ j (x : Row). 0 < x.basic) p.column.0 (λ j h n. r.basic_least j h)

  basic_most_kept : (j : ℕ) → IsRowOf t j → (row_at new j).basic ≤ m_of t + r_of t
  basic_most_kept = each (λ j (x : Row). x.basic ≤ m_of t + r_of t) p.column.1 (λ j h n. r.basic_most j h)

  basic_positive_kept : (j : ℕ) → IsRowOf t j → pos 0 <ℤ entry (row_at new j).entries (row_at new j).basic
  basic_positive_kept = each (λ j (x : Row). pos 0 <ℤ entry x.entries x.basic) p.positive others
    where
      others : (j : ℕ) → IsRowOf t j → j ≢ i → pos 0 <ℤ entry (cleared (turned t i k) k (row_at t j).entries) (row_at t j).basic
      others j h n = let m = (after j h).mixed in
          mixed_some m.c m.a m.b _ (row j (row_at t j).basic) (by (row_at t j).basic) m.c_some m.a_some (m.at (row_at t j).basic) (r.basic_positive j h) (by_apart j h n)

  basic_apart_kept : (j l : ℕ) → IsRowOf t j → IsRowOf t l → l ≢ j → entry (row_at new l).entries (row_at new j).basic ≡ pos 0
  basic_apart_kept = λ j l h g. each (λ j (x : Row). l ≢ j → entry (row_at new l).entries x.basic ≡ pos 0) (in_column l g) (λ j h n. elsewhere j h n l g) j h
    where
      in_column : (l : ℕ) → IsRowOf t l → l ≢ i → entry (row_at new l).entries k ≡ pos 0
      in_column = each (λ l (x : Row). l ≢ i → entry x.entries k ≡ pos 0) (λ n. absurd (n refl)) (λ l g n m. (after l g).none)

      elsewhere : (j : ℕ) → IsRowOf t j → j ≢ i → (l : ℕ) → IsRowOf t l → l ≢ j → entry (row_at new l).entries (row_at t j).basic ≡ pos 0
      elsewhere j h n = each (λ l (x : Row). l ≢ j → entry x.entries (row_at t j).basic ≡ pos 0) (λ m. by_apart j h n)
          (λ l g o m. let x = (after l g).mixed in
          mixed_zero x.c x.a x.b _ (row l (row_at t j).basic) (by (row_at t j).basic) x.c_some (x.at (row_at t j).basic) (r.basic_apart j l h g m) (by_apart j h n))

  unit_apart_kept : (j : ℕ) → IsRowOf t j → entry (row_at new j).entries (unit_column t) ≡ pos 0
  unit_apart_kept = each (λ j (x : Row). entry x.entries (unit_column t) ≡ pos 0) by_unit
      (λ j h n. let m = (after j h).mixed in mixed_zero m.c m.a m.b _ (row j (unit_column t)) (by (unit_column t)) m.c_some (m.at (unit_column t)) (r.unit_apart j h) by_unit)

  unit_positive_kept : pos 0 <ℤ entry cost (unit_column t)
  unit_positive_kept = by_phase (in_first_phase t) refl
    where
      by_phase : (b : Bool) → in_first_phase t ≡ b → pos 0 <ℤ entry cost (unit_column t)
      by_phase true e = let m = cost_after.mixed in
          subst (λ (xs : List ℤ). pos 0 <ℤ entry xs (unit_column t)) (sym (step.first e))
          (mixed_some m.c m.a m.b _ (entry t.cost (unit_column t)) (by (unit_column t)) m.c_some m.a_some (m.at (unit_column t)) r.unit_positive by_unit)
      by_phase false e = subst (λ (xs : List ℤ). pos 0 <ℤ entry xs (unit_column t)) (sym (step.second e)) r.unit_positive

  -- a pivot of the second phase leaves the cost row, so the first phase does not come back
  first_before : in_first_phase new ≡ true → in_first_phase t ≡ true
  first_before f = by_phase (in_first_phase t) refl
    where
      by_phase : (b : Bool) → in_first_phase t ≡ b → b ≡ true
      by_phase true e = refl
      by_phase false e = let same : in_first_phase new ≡ in_first_phase t = ap (λ (xs : List ℤ). is_nonzero (entry xs (right_column t))) (step.second e) in sym e ∙ sym same ∙ f

  basic_cost_after : in_first_phase t ≡ true → (j : ℕ) → IsRowOf t j → entry cost (row_at new j).basic ≡ pos 0
  basic_cost_after e = each (λ j (x : Row). entry cost x.basic ≡ pos 0) (ap (λ (xs : List ℤ). entry xs k) (step.first e) ∙ cost_after.none)
      (λ j h n. let m = cost_after.mixed in
      ap (λ (xs : List ℤ). entry xs (row_at t j).basic) (step.first e)
      ∙ mixed_zero m.c m.a m.b _ (entry t.cost (row_at t j).basic) (by (row_at t j).basic) m.c_some (m.at (row_at t j).basic) (r.basic_cost e j h) (by_apart j h n))

  basic_cost_kept : in_first_phase new ≡ true → (j : ℕ) → IsRowOf t j → entry cost (row_at new j).basic ≡ pos 0
  basic_cost_kept f = basic_cost_after (first_before f)

  combined_by : IsCombined s by
  combined_by = combined_turned s by (row i) turns (r.combined i p.row)

  combined_kept : (j : ℕ) → IsRowOf t j → IsCombined s (entry (row_at new j).entries)
  combined_kept = each (λ j (x : Row). IsCombined s (entry x.entries)) combined_by
      (λ j h n. let m = (after j h).mixed in combined_mixed s by (row j) _ m.c m.a m.b m.c_some m.at (r.combined j h) combined_by)

  solves_kept : (us : List (ℕ × ℤ)) → Solves us s → Solves us new
  solves_kept us v = let old = r.solves us v in
      let none : total us by ≡ pos 0 = total_turned us by (row i) turns.sign turns.at (old i p.row) in
      each (λ j (x : Row). total us (entry x.entries) ≡ pos 0) none
      (λ j h n. let m = (after j h).mixed in
      mixed_zero m.c m.a m.b _ (total us (row j)) (total us by) m.c_some (total_mixed us by (row j) (entry (cleared (turned t i k) k (row_at t j).entries)) m.c m.a m.b m.at) (old j h) none)

  solves_back : (us : List (ℕ × ℤ)) → Solves us new → Solves us t
  solves_back us v j h = elim (cases_eq j i) [
    | inl same ↦ subst (λ n. total us (row n) ≡ pos 0) (sym same) (total_turned us (row i) by turns.sign turns.back none)
    | inr n ↦ (let m = (after j h).mixed in
        mixed_back m.c m.a m.b (total us (entry (cleared (turned t i k) k (row_at t j).entries))) (total us (row j)) (total us by) m.a_some
        (total_mixed us by (row j) (entry (cleared (turned t i k) k (row_at t j).entries)) m.c m.a m.b m.at)
        (subst (λ (x : Row). total us (entry x.entries) ≡ pos 0) (step.other j h n) (v j h)) none)
  ]
    where
      none : total us by ≡ pos 0
      none = subst (λ (x : Row). total us (entry x.entries) ≡ pos 0) step.here (v i p.row)

  abbrev less_unit : List ℤ → Columns
  less_unit xs x = entry xs x -ℤ entry xs (unit_column t) *ℤ entry (artificial_cost t) x

  cost_combined_kept : IsCombined s (λ x. entry cost x -ℤ entry cost (unit_column t) *ℤ entry (artificial_cost t) x)
  cost_combined_kept = by_phase (in_first_phase t) refl
    where
      at_first : IsCombined s (less_unit (cleared (turned t i k) k t.cost))
      at_first = let m = cost_after.mixed in
          combined_mixed s by (less_unit t.cost) (less_unit (cleared (turned t i k) k t.cost)) m.c m.a m.b m.c_some
          (λ x. mixed_cost m.c m.a m.b _ (entry t.cost x) (by x) _ (entry t.cost (unit_column t)) (entry (artificial_cost t) x) (m.at x)
          (mixed_first m.c m.a m.b _ (entry t.cost (unit_column t)) (by (unit_column t)) (m.at (unit_column t)) by_unit))
          r.cost_combined combined_by

      by_phase : (b : Bool) → in_first_phase t ≡ b → IsCombined s (λ x. entry cost x -ℤ entry cost (unit_column t) *ℤ entry (artificial_cost t) x)
      by_phase true e = subst (λ (xs : List ℤ). IsCombined s (less_unit xs)) (sym (step.first e)) at_first
      by_phase false e = subst (λ (xs : List ℤ). IsCombined s (less_unit xs)) (sym (step.second e)) r.cost_combined

  -- in the second phase the right side of the pivot's row is 0
  by_right : in_first_phase t ≡ false → by (right_column t) ≡ pos 0
  by_right e = zero_turned by (row i) turns.sign (right_column t) (turns.at (right_column t)) (stands e)

  basic_rest_kept : (j : ℕ) → IsRowOf t j → (entry cost (row_at new j).basic ≡ pos 0) ⊎ (entry (row_at new j).entries (right_column t) ≡ pos 0)
  basic_rest_kept = by_phase (in_first_phase t) refl
    where
      by_phase : (b : Bool) → in_first_phase t ≡ b → (j : ℕ) → IsRowOf t j → (entry cost (row_at new j).basic ≡ pos 0) ⊎ (entry (row_at new j).entries (right_column t) ≡ pos 0)
      by_phase true e j h = inl (basic_cost_after e j h)
      by_phase false e j h = each (λ j (x : Row). (entry cost x.basic ≡ pos 0) ⊎ (entry x.entries (right_column t) ≡ pos 0)) (inr (by_right e))
          (λ j h n. elim (r.basic_rest j h) [
            | inl none ↦ inl (ap (λ (xs : List ℤ). entry xs (row_at t j).basic) (step.second e) ∙ none)
            | inr none ↦ (let m = (after j h).mixed in inr (mixed_zero m.c m.a m.b _ (row j (right_column t)) (by (right_column t)) m.c_some (m.at (right_column t)) none (by_right e)))
          ]) j h

  right_least_kept : (j : ℕ) → IsRowOf t j → pos 0 ≤ℤ entry (row_at new j).entries (right_column t)
  right_least_kept = by_phase (in_first_phase t) refl
    where
      plain : in_first_phase t ≡ true → turned t i k ≡ (row_at t i).entries
      plain e = not_turned t i k (leaves e).positive

      here : in_first_phase t ≡ true → pos 0 ≤ℤ by (right_column t)
      here e = subst (λ (xs : List ℤ). pos 0 ≤ℤ entry xs (right_column t)) (sym (plain e)) (r.right_least i p.row)

      others : in_first_phase t ≡ true → (j : ℕ) → IsRowOf t j → j ≢ i → pos 0 ≤ℤ entry (cleared (turned t i k) k (row_at t j).entries) (right_column t)
      others e j h n =
          let x = after j h in
          let m = x.mixed in
          mixed_least m.c m.a m.b _ (row j (right_column t)) (by (right_column t)) (row j k) (by k) m.c_some m.a_some (m.at (right_column t))
          (meet m.c m.a m.b _ (row j k) (by k) (m.at k) x.none) p.positive (r.right_least j h) (here e)
          (λ some. subst (λ (xs : List ℤ). (entry xs (right_column t) *ℤ row j k) ≤ℤ (row j (right_column t) *ℤ entry xs k)) (sym (plain e)) ((leaves e).least j h some))

      weak : (x : ℤ) → pos 0 <ℤ x → pos 0 ≤ℤ x
      weak x g = omega (arith, ints, g)

      by_phase : (b : Bool) → in_first_phase t ≡ b → (j : ℕ) → IsRowOf t j → pos 0 ≤ℤ entry (row_at new j).entries (right_column t)
      by_phase true e = each (λ j (x : Row). pos 0 ≤ℤ entry x.entries (right_column t)) (here e) (others e)
      by_phase false e = each (λ j (x : Row). pos 0 ≤ℤ entry x.entries (right_column t)) (subst (λ z. pos 0 ≤ℤ z) (sym (by_right e)) (omega (arith, ints)))
          (λ j h n. let m = (after j h).mixed in
          cancel_least m.c _ m.c_some (subst (λ z. pos 0 ≤ℤ z) (sym (mixed_first m.c m.a m.b _ (row j (right_column t)) (by (right_column t)) (m.at (right_column t)) (by_right e)))
          (times_least m.a (row j (right_column t)) (weak m.a m.a_some) (r.right_least j h))))

  kept : ReachedRows s new
  kept = record {
    positions = r.positions;
    vars = r.vars;
    signs = r.signs;
    rows = step.count;
    widths = widths_kept;
    cost_width = cost_width_kept;
    basic_least = basic_least_kept;
    basic_most = basic_most_kept;
    basic_positive = basic_positive_kept;
    basic_apart = basic_apart_kept;
    basic_cost = basic_cost_kept;
    basic_rest = basic_rest_kept;
    right_least = right_least_kept;
    unit_positive = unit_positive_kept;
    unit_apart = unit_apart_kept;
    combined = combined_kept;
    cost_combined = cost_combined_kept;
    solves = solves_kept;
    solves_start = λ us v. r.solves_start us (solves_back us v);
  }

pub kept_by_pivot : (s t : TableauRows) (i k : ℕ) → ReachedRows s t → IsPivot t i k → (in_first_phase t ≡ true → IsLeast t i k)
    → (in_first_phase t ≡ false → entry (row_at t i).entries (right_column t) ≡ pos 0) → ReachedRows s (pivoted t i k)
unfolding pivoted
kept_by_pivot s t i k r p leaves stands =
    kept s t i k (map (row_after t i k) (up_to (r_of t))) (cond (in_first_phase t) (cleared (turned t i k) k t.cost) t.cost) r p leaves stands (step_of t i k p.row)
