-- Numbers of a run that is not too wide are in range.
use Rattle.std.proofs.Common.{◌≡◌, inl, inr, ◌⊎◌, ℕ, zero, suc, ◌+◌, ◌-◌, ◌*◌, ◌^◌, ◌<◌, ◌≤◌, Bool, true, false, cond, not, ◌==◌, nat_lt, List, [], ◌∷◌, map, filter, length, get_or, ℤ, pos, negsuc, neg_ℤ, ◌*ℤ◌, ◌<ℤ◌, int_lt, unsigned_abs, refl, sym, ap, ◌∙◌, subst, arith, Some, None, Contains, eq-eqb}
use Rattle.std.specs.Prelude.{find}
use Rattle.std.specs.List.{flat_map, range_with_len}
use Rattle.std.proofs.lemmas.Bool.{cases_eq, leb-true, le-leb, ne_eqb}
use Rattle.std.proofs.lemmas.Bool.Decides.{nat_tests}
use Rattle.std.proofs.lemmas.Int.{ints, unsigned_abs-mul}
use Rattle.std.proofs.lemmas.List.FromFn.{get_or-map-range_with_len}
use Rattle.std.proofs.lemmas.List.{get_or_past}
use Rattle.std.proofs.lemmas.List.Elements.{All-get_or, Contains-append_left, Contains-append_right}
use Rattle.lk_model.specs.Lists.{up_to, is_zero}
use Rattle.lk_model.specs.Limits.{is_in_range}
use Rattle.lk_model.specs.Formulas.Formula.{Cnf, variables_at}
use Rattle.lk_model.specs.Linear.Arithmetic.{reduced, primitive, first_wide, result_by}
use Rattle.lk_model.specs.Linear.Rows.{Row, TableauRows, entry, row_at, r_of, start_of, start_row, start_rows}
use Rattle.lk_model.specs.Linear.Pivot.{turned, cleared, combined, made_in_row, made_to_clear, row_after, pivoted, made_in_pivot}
use Rattle.lk_model.specs.declared.wide.Wide.{Wide}
use Rattle.lk_model.proofs.Keys.{first_in, later_in}
use Rattle.exact_rows.specs.Made.{mixed}
use Rattle.exact_rows.proofs.Wides.{mixed_in_range}
use Rattle.exact_rows.proofs.Entries.{negated-in_range as negated_in_range}
use Rattle.exact_pivot.specs.Reached.{IsRowOf}
use Rattle.exact_pivot.specs.Small.{AreSmall}
use Rattle.exact_pivot.proofs.Divided.{primitive_divided}
use Rattle.exact_pivot.proofs.Beginnings.{small_rows}
use Rattle.exact_pivot.proofs.Pushes.{small_entry}
use Rattle.exact_pivot.proofs.Starts.{zip_length}

-- WHAT STANDS IN LISTS

-- what stands in the list of one of them stands in all lists joined
pub flat_in : {X Y : Type 0} (f : X → List Y) (xs : List X) (x : X) (y : Y) → Contains xs x → Contains (f x) y → Contains (flat_map f xs) y
flat_in f [] x y (k, lt, e) i = absurd (omega (arith, lt))
flat_in f (z ∷ xs) x y (zero, lt, e) i = Contains-append_left (f z) (flat_map f xs) y (subst (λ w. Contains (f w) y) (sym e) i)
flat_in f (z ∷ xs) x y (suc k, lt, e) i = Contains-append_right (f z) (flat_map f xs) y (flat_in f xs x y (k, omega (arith, lt), e) i)

-- a number of a range
pub range_in : (a n j : ℕ) → a ≤ j → j < a + n → Contains (range_with_len a n) j
range_in a zero j h l = absurd (omega (arith, h, l))
range_in a (suc n) j h l = elim (cases_eq a j) [
  | inl same ↦ subst (λ w. Contains (a ∷ range_with_len (a + 1) n) w) same (first_in a (range_with_len (a + 1) n))
  | inr other ↦ later_in a (range_with_len (a + 1) n) j (range_in (a + 1) n j (omega (arith, h, other)) (omega (arith, l)))
]

-- what passes a filter stands in what it keeps
pub filter_in : {X : Type 0} (p : X → Bool) (xs : List X) (x : X) → Contains xs x → p x ≡ true → Contains (filter p xs) x
filter_in p [] x (k, lt, e) y = absurd (omega (arith, lt))
filter_in p (z ∷ xs) x (zero, lt, e) y = rw (ap p e ∙ y) (subst (λ w. Contains (z ∷ filter p xs) w) e (first_in z (filter p xs)))
filter_in p (z ∷ xs) x (suc k, lt, e) y = by_test (p z) (filter_in p xs x (k, omega (arith, lt), e) y)
  where
    by_test : (b : Bool) → Contains (filter p xs) x → Contains (cond b (z ∷ filter p xs) (filter p xs)) x
    by_test true i = later_in z (filter p xs) x i
    by_test false i = i

-- where none is found each fails, and the other way round
pub each_fails : {X : Type 0} (p : X → Bool) (xs : List X) (x : X) → find p xs ≡ None → Contains xs x → p x ≡ false
each_fails p [] x e (k, lt, is) = absurd (omega (arith, lt))
each_fails p (z ∷ xs) x e i = by_test (p z) refl e i (λ f k. each_fails p xs x f k)
  where
    by_test : (b : Bool) → p z ≡ b → cond b (Some z) (find p xs) ≡ None → Contains (z ∷ xs) x → (find p xs ≡ None → Contains xs x → p x ≡ false) → p x ≡ false
    by_test true s e i rest = absurd (let f : ⊥ = cc in f)
    by_test false s e (zero, lt, is) rest = ap p (sym is) ∙ s
    by_test false s e (suc k, lt, is) rest = rest e (k, omega (arith, lt), is)

-- where each fails none is found
pub none_by_each : {X : Type 0} (p : X → Bool) (xs : List X) → ((x : X) → Contains xs x → p x ≡ false) → find p xs ≡ None
none_by_each p [] h = refl
none_by_each p (z ∷ xs) h = rw (h z (first_in z xs)) (none_by_each p xs (λ x i. h x (later_in z xs x i)))

-- RESULTS

-- a result is in range where none of a list that it stands in is too wide
pub result_in_range : (ws : List Wide) (w : Wide) → first_wide ws ≡ None → Contains ws w → is_in_range (result_by w.op w.left w.right) ≡ true
unfolding first_wide
result_in_range ws w e i = back (is_in_range (result_by w.op w.left w.right)) (each_fails (λ (w : Wide). not (is_in_range (result_by w.op w.left w.right))) ws w e i)
  where
    back : (b : Bool) → not b ≡ false → b ≡ true
    back true e = refl
    back false e = absurd (let f : ⊥ = cc in f)

-- where none of a list is too wide, none of some of its results is
pub part_in_range : (ws vs : List Wide) → first_wide ws ≡ None → ((w : Wide) → Contains vs w → Contains ws w) → first_wide vs ≡ None
unfolding first_wide
part_in_range ws vs e h = none_by_each _ vs (λ w i. each_fails (λ (w : Wide). not (is_in_range (result_by w.op w.left w.right))) ws w e (h w i))

-- a number that is not greater is in range
pub smaller : (x y : ℤ) → unsigned_abs x ≤ unsigned_abs y → is_in_range y ≡ true → is_in_range x ≡ true
smaller x y h e = let most = leb-true (unsigned_abs y) (2 ^ 127 - 1) e in le-leb (unsigned_abs x) (2 ^ 127 - 1) (omega (arith, h, most))

-- so is one of which a multiple is
pub divided_in_range : (c x y : ℤ) → pos 0 <ℤ c → c *ℤ x ≡ y → is_in_range y ≡ true → is_in_range x ≡ true
divided_in_range c x y h e r = smaller x y (subst (λ z. unsigned_abs x ≤ unsigned_abs z) e (grows c h)) r
  where
    grows : (c : ℤ) → pos 0 <ℤ c → unsigned_abs x ≤ unsigned_abs (c *ℤ x)
    grows (pos zero) h = absurd (omega (arith, ints, h))
    grows (pos (suc a)) h =
        let e = unsigned_abs-mul (pos (suc a)) x in
        let f : suc a * unsigned_abs x ≡ a * unsigned_abs x + unsigned_abs x = omega arith in
        omega (arith, e, f)
    grows (negsuc a) h = absurd (omega (arith, ints, h))

-- a number times a sign
pub signed_in_range : (e x : ℤ) → (e ≡ pos 1) ⊎ (e ≡ negsuc 0) → is_in_range x ≡ true → is_in_range (e *ℤ x) ≡ true
signed_in_range e x (inl s) r = subst (λ z. is_in_range (z *ℤ x) ≡ true) (sym s) (smaller (pos 1 *ℤ x) x (omega (arith, ints)) r)
signed_in_range e x (inr s) r = subst (λ z. is_in_range (z *ℤ x) ≡ true) (sym s) (smaller (negsuc 0 *ℤ x) x (omega (arith, ints)) r)

-- ROWS

-- each entry of a list is in range
abbrev pub InRange : List ℤ → Type 0
InRange xs = (i : ℕ) → is_in_range (get_or xs i (pos 0)) ≡ true

-- each entry of each row is in range
abbrev pub RowsInRange : TableauRows → Type 0
RowsInRange t = (i : ℕ) → IsRowOf t i → InRange (row_at t i).entries

-- a row in range is so when it is divided by its content
pub primitive_in_range : (xs : List ℤ) → InRange xs → InRange (primitive xs)
primitive_in_range xs h i = let d = primitive_divided xs in divided_in_range d.0 (get_or (primitive xs) i (pos 0)) (get_or xs i (pos 0)) d.1.some (d.1.at i) (h i)

-- and when it is turned
turned_in_range : (b : Bool) (xs : List ℤ) → InRange xs → InRange (cond b (map neg_ℤ xs) xs)
turned_in_range true xs h i = subst (λ z. is_in_range z ≡ true) (sym (at_place xs i)) (negated_in_range (get_or xs i (pos 0)) (h i))
  where
    at_place : (xs : List ℤ) (i : ℕ) → get_or (map neg_ℤ xs) i (pos 0) ≡ neg_ℤ (get_or xs i (pos 0))
    at_place [] i = refl
    at_place (x ∷ xs) zero = refl
    at_place (x ∷ xs) (suc i) = at_place xs i
turned_in_range false xs h i = h i

-- a list whose elements are in range has no other entry
pub all_in_range : (xs : List ℤ) → ((i : ℕ) → i < length xs → is_in_range (get_or xs i (pos 0)) ≡ true) → InRange xs
all_in_range xs h i = by_place (nat_lt i (length xs)) refl
  where
    by_place : (b : Bool) → nat_lt i (length xs) ≡ b → is_in_range (get_or xs i (pos 0)) ≡ true
    by_place true e = h i (leb-true (suc i) (length xs) e)
    by_place false e = rw (get_or_past xs i (pos 0) (grind (arith, nat_tests))) refl

-- a row that is combined with no result too wide is in range
combined_in_range : (p f : ℤ) (row by : List ℤ) → first_wide (made_in_row p f row by) ≡ None → InRange (combined p f row by)
unfolding made_in_row combined
combined_in_range p f row by e =
    primitive_in_range (mixed (reduced p f) (reduced f p) row by) (all_in_range (mixed (reduced p f) (reduced f p) row by)
    (λ i h. All-get_or (λ x. is_in_range x ≡ true) (mixed (reduced p f) (reduced f p) row by) i (pos 0) h (mixed_in_range (reduced p f) (reduced f p) row by e)))

-- so is one that is cleared
cleared_in_range : (by : List ℤ) (k : ℕ) (row : List ℤ) → InRange row → first_wide (made_to_clear by k row) ≡ None → InRange (cleared by k row)
cleared_in_range by k row h e = by_test (is_zero (entry row k)) e
  where
    by_test : (b : Bool) → first_wide (cond b [] (made_in_row (entry by k) (entry row k) row by)) ≡ None → InRange (cond b row (combined (entry by k) (entry row k) row by))
    by_test true e = h
    by_test false e = combined_in_range (entry by k) (entry row k) row by e

-- after a pivot that is not too wide the rows are in range
pub pivot_in_range : (t : TableauRows) (i k : ℕ) → IsRowOf t i → RowsInRange t → first_wide (made_in_pivot t i k) ≡ None → RowsInRange (pivoted t i k)
unfolding made_in_pivot pivoted
pivot_in_range t i k within h e j there = subst (λ (row : Row). InRange row.entries) (sym (rows_at j there)) (elim (cases_eq j i) [
  | inl same ↦ rw (eq-eqb j i same) (turned_in_range (int_lt (entry (row_at t i).entries k) (pos 0)) (row_at t i).entries (h i within))
  | inr other ↦ rw (ne_eqb j i other) (cleared_in_range (turned t i k) k (row_at t j).entries (h j there)
      (part_in_range _ (made_to_clear (turned t i k) k (row_at t j).entries) e (λ w inside. Contains-append_left _ _ w
      (flat_in (λ j. made_to_clear (turned t i k) k (row_at t j).entries) (filter (λ j. not (j == i)) (up_to (r_of t))) j w
      (filter_in (λ j. not (j == i)) (up_to (r_of t)) j (range_in 1 (r_of t) j there.0 (omega (arith, there))) (ap not (ne_eqb j i other))) inside))))
])
  where
    rows_at : (j : ℕ) → IsRowOf t j → get_or (map (row_after t i k) (up_to (r_of t))) (j - 1) (record { entries = []; basic = 0 }) ≡ row_after t i k j
    rows_at j h = get_or-map-range_with_len (row_after t i k) 1 (r_of t) (j - 1) j (record { entries = []; basic = 0 }) (omega (arith, h)) (omega (arith, h))

-- the starting rows are in range
pub start_in_range : (F : Cnf) (S : List ℕ) → length S ≤ 4_000_000 → RowsInRange (start_of F S)
unfolding start_of
start_in_range F S few i within k =
    let count = zip_length (start_row F S) (variables_at F S) 1 in
    let small = All-get_or (λ (row : Row). AreSmall row.entries) (start_rows F S) (i - 1) (record { entries = []; basic = 0 }) (omega (arith, within, count)) (small_rows F S few) in
    let entry_small = small_entry (row_at (start_of F S) i).entries (k + 1) small in
    let step : k + 1 - 1 ≡ k = omega arith in
    subst (λ n. is_in_range (get_or (row_at (start_of F S) i).entries n (pos 0)) ≡ true) step
    (le-leb _ (2 ^ 127 - 1) (omega (arith, entry_small)))
