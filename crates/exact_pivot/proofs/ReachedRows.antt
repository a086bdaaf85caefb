-- What holds of the rows that are reached, by the pivots that reach them.
use Rattle.std.proofs.Common.{nat_lt, ◌≡◌, ℕ, zero, suc, ◌+◌, ◌-◌, Bool, true, false, cond, List, map, ℤ, pos, negsuc, neg_ℤ, ◌<ℤ◌, int_lt, Option, Some, None, unwrap_or, refl, sym, ap, ◌∙◌, subst, arith}
use Rattle.std.proofs.Math.ListN.{get_or-map}
use Rattle.std.proofs.lemmas.Bool.{leb-true}
use Rattle.std.proofs.lemmas.Int.{ints}
use Rattle.std.specs.Option.{option_map_or}
use Rattle.lk_model.specs.Lists.{is_nonzero}
use Rattle.lk_model.specs.Linear.Rows.{TableauRows, entry, row_at, m_of, r_of, right_column, start_of}
use Rattle.lk_model.specs.Linear.Pivot.{in_first_phase}
use Rattle.lk_model.specs.Linear.Phases.{PivotOn, StageStands, EndsLean, next, entering, leaving, artificial_row, replacing}
use Rattle.exact_pivot.specs.Reached.{AtStart, ByPivot, IsRowOf, ReachedRows, ReachedRowsLaw, IsPivot, LeavingLaw}
use Rattle.exact_pivot.proofs.Finds.{find_says}
use Rattle.exact_pivot.proofs.Steps.{IsLeast, kept_by_pivot}
use Rattle.exact_pivot.proofs.Bests.{some_leaves}
use Rattle.exact_pivot.proofs.Standing.{artificial_right}
use Rattle.exact_pivot.proofs.Starts.{starting_rows}

-- WHERE A PIVOT IS

-- a pivot is on a row with a positive entry once it is turned, and in the first phase on the row that leaves
record IsPlace (t : TableauRows) (i k : ℕ) : Type 0 where
  pivot : IsPivot t i k
  least : in_first_phase t ≡ true → IsLeast t i k
  stands : in_first_phase t ≡ false → entry (row_at t i).entries (right_column t) ≡ pos 0

turned_positive : (row : List ℤ) (k : ℕ) → pos 0 <ℤ entry row k → pos 0 <ℤ entry (cond (int_lt (entry row k) (pos 0)) (map neg_ℤ row) row) k
turned_positive row k h = by_test (int_lt (entry row k) (pos 0)) refl
  where
    by_test : (b : Bool) → int_lt (entry row k) (pos 0) ≡ b → pos 0 <ℤ entry (cond b (map neg_ℤ row) row) k
    by_test true e = absurd (omega (arith, ints, h, e))
    by_test false e = h

turned_some : (row : List ℤ) (k : ℕ) → is_nonzero (entry row k) ≡ true → pos 0 <ℤ entry (cond (int_lt (entry row k) (pos 0)) (map neg_ℤ row) row) k
turned_some row k h = by_test (entry row k) refl h (int_lt (entry row k) (pos 0)) refl
  where
    by_test : (z : ℤ) → entry row k ≡ z → is_nonzero z ≡ true → (b : Bool) → int_lt (entry row k) (pos 0) ≡ b → pos 0 <ℤ entry (cond b (map neg_ℤ row) row) k
    by_test (pos zero) e h b t = cc
    by_test (pos (suc n)) e h true t = absurd (omega (arith, ints, e, t))
    by_test (pos (suc n)) e h false t = omega (arith, ints, e)
    by_test (negsuc n) e h true t =
        let turned_entry : entry (map neg_ℤ row) k ≡ neg_ℤ (entry row k) = get_or-map neg_ℤ row (k - 1) (pos 0) in
        omega (arith, ints, e, turned_entry)
    by_test (negsuc n) e h false t = absurd (omega (arith, ints, e, t))

clash : {b : Bool} → b ≡ true → b ≡ false → ⊥
clash e f = let g : true ≡ false = sym e ∙ f in let h : ⊥ = cc in h

module _ (s t : TableauRows) (r : ReachedRows s t) (i k : ℕ) where
  at_first : in_first_phase t ≡ true → (col : Option ℕ) → entering t ≡ col
      → option_map_or (λ m. PivotOn (unwrap_or (leaving t m) 0) m) col StageStands ≡ PivotOn i k → IsPlace t i k
  at_first first None e f = cc
  at_first first (Some m) e f =
      let row : unwrap_or (leaving t m) 0 ≡ i = cc in
      let column : m ≡ k = cc in
      let leaves = some_leaves s t m r first e in
      let found = find_says (λ x. int_lt (entry t.cost x) (pos 0)) 1 (m_of t + r_of t) m e in
      let here : IsPlace t leaves.row m = record {
        pivot = record { row = leaves.within; column = (found.least, omega (arith, found.below)); positive = turned_positive (row_at t leaves.row).entries m leaves.least.positive };
        least = λ g. leaves.least;
        stands = λ g. absurd (clash first g);
      } in
      let same : leaves.row ≡ i = sym (ap (λ (o : Option ℕ). unwrap_or o 0) leaves.is) ∙ row in
      subst (λ n. IsPlace t n k) same (subst (IsPlace t leaves.row) column here)

  at_column : in_first_phase t ≡ false → (n : ℕ) → IsRowOf t n → entry (row_at t n).entries (right_column t) ≡ pos 0 → (col : Option ℕ) → replacing t n ≡ col → option_map_or (PivotOn n) col StageStands ≡ PivotOn i k → IsPlace t i k
  at_column second n h right None e f = cc
  at_column second n h right (Some c) e f =
      let row : n ≡ i = cc in
      let column : c ≡ k = cc in
      let found = find_says (λ x. is_nonzero (entry (row_at t n).entries x)) 1 (m_of t) c e in
      let here : IsPlace t n c = record {
        pivot = record { row = h; column = (found.least, omega (arith, found.below)); positive = turned_some (row_at t n).entries c found.passes };
        least = λ g. absurd (clash g second);
        stands = λ g. right;
      } in
      subst (λ x. IsPlace t i x) column (subst (λ x. IsPlace t x c) row here)

  at_second : in_first_phase t ≡ false → (row : Option ℕ) → artificial_row t ≡ row
      → option_map_or (λ n. option_map_or (PivotOn n) (replacing t n) StageStands) row EndsLean ≡ PivotOn i k → IsPlace t i k
  at_second second None e f = cc
  at_second second (Some n) e f =
      let found = find_says (λ x. nat_lt (m_of t) (row_at t x).basic) 1 (r_of t) n e in
      let within : IsRowOf t n = (found.least, omega (arith, found.below)) in
      at_column second n within (artificial_right s t r second n within (leb-true (suc (m_of t)) (row_at t n).basic found.passes)) (replacing t n) refl f

  by_phase : (b : Bool) → in_first_phase t ≡ b
      → cond b (option_map_or (λ m. PivotOn (unwrap_or (leaving t m) 0) m) (entering t) StageStands)
      (option_map_or (λ n. option_map_or (PivotOn n) (replacing t n) StageStands) (artificial_row t) EndsLean) ≡ PivotOn i k → IsPlace t i k
  by_phase true e f = at_first e (entering t) refl f
  by_phase false e f = at_second e (artificial_row t) refl f

  pivot_place : next t ≡ PivotOn i k → IsPlace t i k
  unfolding next
  pivot_place e = by_phase (in_first_phase t) refl e

-- WHAT HOLDS OF ALL ROWS THAT ARE REACHED

pub reached_rows : ReachedRowsLaw
reached_rows F S _ AtStart = starting_rows F S
reached_rows F S _ (ByPivot t i k r e) =
    let before = reached_rows F S t r in
    let place = pivot_place (start_of F S) t before i k e in
    kept_by_pivot (start_of F S) t i k before place.pivot place.least place.stands

pub leaving_rows : LeavingLaw
leaving_rows = record {
  leaves = λ F S t k r first e. let leaves = some_leaves (start_of F S) t k (reached_rows F S t r) first e in (leaves.row, leaves.is);
  stands = λ F S t i r second h a. artificial_right (start_of F S) t (reached_rows F S t r) second i h a;
  pivots = λ F S t i k r e. (pivot_place (start_of F S) t (reached_rows F S t r) i k e).pivot;
}
