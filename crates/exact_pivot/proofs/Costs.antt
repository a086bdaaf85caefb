-- The cost row at the start, from the entries of the rows.
use Rattle.std.proofs.Common.{◌≡◌, ◌≢◌, ℕ, zero, suc, ◌+◌, ◌-◌, ◌*◌, ◌<◌, ◌≤◌, true, IsTrue, ◌^◌, List, [], ◌∷◌, ◌++◌, map, take, drop, replicate, length, get_or, set, ℤ, pos, neg_ℤ, ◌+ℤ◌, ◌-ℤ◌, unsigned_abs, refl, sym, ap, ◌∙◌, subst, arith, length-drop}
use Rattle.std.proofs.lemmas.Int.{ints}
use Rattle.std.proofs.lemmas.Bool.Decides.{nat_tests}
use Rattle.std.proofs.lemmas.List.{drop_all, length-take, map_more}
use Rattle.std.proofs.lemmas.List.FromFn.{get_or-map-range_with_len, length-map-range_with_len}
use Rattle.std.specs.List.{All, range_with_len}
use Rattle.std.proofs.lemmas.Bool.{le-leb}
use Rattle.std.proofs.lemmas.List.Elements.{All-append, All-cons, All-nil, All-take}
use Rattle.lk_model.specs.Limits.{is_in_range}
use Rattle.lk_model.specs.Lists.{up_to, sum_of, rises_within}
use Rattle.lk_model.specs.Linear.Rows.{Row, entry, less_column}
use Rattle.lk_model.proofs.Rising.{rises}
use Rattle.exact_rows.specs.declared.sparse.Entry.{Entry}
use Rattle.exact_rows.specs.Sparse.{AreEntries, entries_of, value_in_column, row_of}
use Rattle.exact_rows.proofs.Entries.{columns_of, number_before, number_is, row_of_entries, number_first as number_here}
use Rattle.exact_rows.specs.Made.{AreInRange}
use Rattle.exact_pivot.specs.Small.{AreSmall, cost_of}
use Rattle.exact_pivot.proofs.Pivots.{map_range, map_places}
use Rattle.exact_pivot.proofs.Pushes.{small_entry}

-- NUMBERS ALONG A RANGE

-- one of them is written
pub range_set : (f g : ℕ → ℤ) (a n i : ℕ) (y : ℤ) → i < n → y ≡ g (a + i) → ((k : ℕ) → k ≢ a + i → f k ≡ g k) → set (map f (range_with_len a n)) i y ≡ map g (range_with_len a n)
range_set f g a zero i y h e other = absurd (omega (arith, h))
range_set f g a (suc n) zero y h e other =
    let here : y ≡ g a = e ∙ ap g (let place : a + 0 ≡ a = omega arith in place) in
    let later = map_range f g (a + 1) n (λ j l m. other j (λ s. omega (arith, s, l))) in
    λ j. here j ∷ later j
range_set f g a (suc n) (suc i) y h e other =
    let here : f a ≡ g a = other a (λ s. omega (arith, s)) in
    let place : a + suc i ≡ a + 1 + i = omega arith in
    let later = range_set f g (a + 1) n i y (omega (arith, h)) (e ∙ ap g place) (λ k d. other k (λ s. d (s ∙ place))) in
    λ j. here j ∷ later j

map_same : (xs : List ℤ) → map (λ x. x) xs ≡ xs
map_same [] = refl
map_same (x ∷ xs) = ap (λ ys. x ∷ ys) (map_same xs)

pub range_entries : (xs : List ℤ) → map (entry xs) (up_to (length xs)) ≡ xs
range_entries xs = map_places (λ x. x) xs (pos 0) 1 ∙ map_same xs

pub range_zeros : (f : ℕ → ℤ) (a n : ℕ) → ((k : ℕ) → f k ≡ pos 0) → replicate n (pos 0) ≡ map f (range_with_len a n)
range_zeros f a zero e = refl
range_zeros f a (suc n) e = λ j. sym (e a) j ∷ range_zeros f (a + 1) n e j

pub entry_at : (f : ℕ → ℤ) (n k : ℕ) → 0 < k → k ≤ n → entry (map f (up_to n)) k ≡ f k
entry_at f n k some most = get_or-map-range_with_len f 1 n (k - 1) k (pos 0) (omega (arith, some, most)) (omega (arith, some))

-- ONE ROW

number_other : (e : Entry) (es : List Entry) (k : ℕ) → e.column ≢ k → value_in_column (e ∷ es) k ≡ value_in_column es k
number_other e es k h = grind (arith, nat_tests, h)

-- of an entry of a row and those behind it
pub record EntryAt (low n : ℕ) (es : List Entry) (i : ℕ) (e : Entry) : Type 0 where
  pub above : low < e.column
  pub most : e.column ≤ n
  pub whole : value_in_column es e.column ≡ e.value
  pub here : value_in_column (drop i es) e.column ≡ e.value
  pub behind : value_in_column (drop (i + 1) es) e.column ≡ pos 0
  pub others : (k : ℕ) → k ≢ e.column → value_in_column (drop i es) k ≡ value_in_column (drop (i + 1) es) k

entry_first : (low high : ℕ) (e : Entry) (es : List Entry) → rises_within low high (columns_of (e ∷ es)) ≡ true → EntryAt low high (e ∷ es) 0 e
entry_first low high e es r =
    let s = rises low high e.column (columns_of es) r in
    record {
      above = s.above;
      most = s.within;
      whole = number_here e es e.column refl;
      here = number_here e es e.column refl;
      behind = number_before e.column high es e.column s.more (omega arith);
      others = λ k h. number_other e es k (λ s. h (sym s));
    }

entry_along : (low high : ℕ) (es : List Entry) (i : ℕ) (d : Entry) → rises_within low high (columns_of es) ≡ true → i < length es → EntryAt low high es i (get_or es i d)
entry_along low high [] i d r h = absurd (omega (arith, h))
entry_along low high (e ∷ es) zero d r h = entry_first low high e es r
entry_along low high (e ∷ es) (suc i) d r h =
    let s = rises low high e.column (columns_of es) r in
    let later = entry_along e.column high es i d s.more (omega (arith, h)) in
    let more : suc i + 1 ≡ suc (i + 1) = omega arith in
    record {
      above = omega (arith, s.above, later.above);
      most = later.most;
      whole = number_other e es (get_or es i d).column (λ f. absurd (omega (arith, f, later.above))) ∙ later.whole;
      here = later.here;
      behind = rw more later.behind;
      others = λ k h. rw more (later.others k h);
    }

-- what is left of a row to be subtracted: of the number in a column that of the entries that are left is still to come
abbrev pub subtracted : List ℤ → List ℤ → List Entry → ℕ → ℤ
subtracted sums row rest k = (entry sums k -ℤ entry row k) +ℤ value_in_column rest k

nothing_left : (x y : ℤ) → (x -ℤ y) +ℤ y ≡ x
nothing_left x y = omega (arith, ints)

all_left : (x : ℤ) → x +ℤ pos 0 ≡ x
all_left x = omega (arith, ints)

one_less : (a x y z : ℤ) → y ≡ (a +ℤ x) -ℤ x → z ≡ pos 0 → y ≡ a +ℤ z
one_less a x y z e h = omega (arith, ints, e, h)

module _ (sums row : List ℤ) (es : List Entry) (e : es ≡ entries_of row) (h : AreEntries (length row) es) (w : length row ≡ length sums) where
  number_of : (k : ℕ) → 0 < k → value_in_column es k ≡ entry row k
  number_of k some = number_is (length row) es k h some ∙ ap (λ (xs : List ℤ). entry xs k) (ap (row_of (length row)) e ∙ row_of_entries row)

  pub subtract_begun : sums ≡ map (subtracted sums row (drop 0 es)) (up_to (length sums))
  subtract_begun = sym (map_range (subtracted sums row es) (entry sums) 1 (length sums)
      (λ k some most. ap (λ z. (entry sums k -ℤ entry row k) +ℤ z) (number_of k (omega (arith, some))) ∙ nothing_left (entry sums k) (entry row k)) ∙ range_entries sums)

  pub entry_of_row : (i : ℕ) (d : Entry) → i < length es → EntryAt 0 (length sums) es i (get_or es i d)
  entry_of_row i d lt = subst (λ (n : ℕ). EntryAt 0 n es i (get_or es i d)) w (entry_along 0 (length row) es i d h.rise lt)

  pub value_of_row : (i : ℕ) (d : Entry) → i < length es → (get_or es i d).value ≡ entry row (get_or es i d).column
  value_of_row i d lt = (let p = entry_of_row i d lt in sym p.whole ∙ number_of (get_or es i d).column p.above)

  -- the number that is read
  pub subtract_reads : (now : List ℤ) (i : ℕ) (d : Entry) → i < length es → now ≡ map (subtracted sums row (drop i es)) (up_to (length sums))
      → entry now (get_or es i d).column ≡ entry sums (get_or es i d).column
  subtract_reads now i d lt is =
      let p = entry_of_row i d lt in
      let k = (get_or es i d).column in
      let same : value_in_column (drop i es) k ≡ entry row k = p.here ∙ value_of_row i d lt in
      ap (λ (xs : List ℤ). entry xs k) is ∙ entry_at (subtracted sums row (drop i es)) (length sums) k p.above p.most
      ∙ ap (λ z. (entry sums k -ℤ entry row k) +ℤ z) same ∙ nothing_left (entry sums k) (entry row k)

  pub subtract_step : (now : List ℤ) (i : ℕ) (d : Entry) (y : ℤ) → i < length es → now ≡ map (subtracted sums row (drop i es)) (up_to (length sums))
      → y ≡ entry now (get_or es i d).column -ℤ (get_or es i d).value → set now ((get_or es i d).column - 1) y ≡ map (subtracted sums row (drop (i + 1) es)) (up_to (length sums))
  subtract_step now i d y lt is made =
      let p = entry_of_row i d lt in
      let x = (get_or es i d).value in
      let k = (get_or es i d).column in
      let n = length sums in
      let a = entry sums k -ℤ entry row k in
      let read : entry now k ≡ a +ℤ x = ap (λ (xs : List ℤ). entry xs k) is ∙ entry_at (subtracted sums row (drop i es)) n k p.above p.most ∙ ap (λ z. a +ℤ z) p.here in
      let value : y ≡ a +ℤ value_in_column (drop (i + 1) es) k = one_less a x y (value_in_column (drop (i + 1) es) k) (made ∙ ap (λ z. z -ℤ x) read) p.behind in
      let place : 1 + (k - 1) ≡ k = omega (arith, p.above) in
      ap (λ (xs : List ℤ). set xs (k - 1) y) is
      ∙ range_set (subtracted sums row (drop i es)) (subtracted sums row (drop (i + 1) es)) 1 n (k - 1) y (omega (arith, p.above, p.most))
      (value ∙ ap (subtracted sums row (drop (i + 1) es)) (sym place))
      (λ j far. ap (λ z. (entry sums j -ℤ entry row j) +ℤ z) (p.others j (λ s. far (s ∙ sym place))))

  pub subtract_ended : (now : List ℤ) (i : ℕ) → length es ≤ i → now ≡ map (subtracted sums row (drop i es)) (up_to (length sums)) → now ≡ map (λ k. entry sums k -ℤ entry row k) (up_to (length sums))
  subtract_ended now i most is =
      let none : drop i es ≡ [] = drop_all i es most in
      is ∙ map_range (subtracted sums row (drop i es)) (λ k. entry sums k -ℤ entry row k) 1 (length sums)
      (λ k _ _. ap (λ ds. subtracted sums row ds k) none ∙ all_left (entry sums k -ℤ entry row k))

-- ALL ROWS

more_summed : (xs : List ℤ) (x : ℤ) → neg_ℤ (sum_of (xs ++ x ∷ [])) ≡ neg_ℤ (sum_of xs) -ℤ x
more_summed [] x = omega (arith, ints)
more_summed (y ∷ xs) x = (let later = more_summed xs x in omega (arith, ints, later))

pub less_more : (rows : List Row) (i k : ℕ) (row : Row) → i < length rows → row ≡ get_or rows i row → less_column (take i rows) k -ℤ entry row.entries k ≡ less_column (take (i + 1) rows) k
less_more rows i k row lt at =
    let f : Row → ℤ = λ (r : Row). entry r.entries k in
    ap (λ (r : Row). less_column (take i rows) k -ℤ f r) at ∙ sym (more_summed (map f (take i rows)) (f (get_or rows i row))) ∙ ap (λ xs. neg_ℤ (sum_of xs)) (sym (map_more f rows i row lt))

less_bound : (x y : ℤ) (n : ℕ) → unsigned_abs x ≤ 4_000_000 → unsigned_abs (neg_ℤ y) ≤ n * 4_000_000 → unsigned_abs (neg_ℤ (x +ℤ y)) ≤ suc n * 4_000_000
less_bound x y n h k = omega (arith, ints, h, k)

pub less_most : (rows : List Row) (k : ℕ) → All (λ (row : Row). AreSmall row.entries) rows → unsigned_abs (less_column rows k) ≤ length rows * 4_000_000
less_most [] k small = omega arith
less_most (row ∷ rows) k small =
    less_bound (entry row.entries k) (sum_of (map (λ (r : Row). entry r.entries k) rows)) (length rows) (small_entry row.entries k (small 0 row (omega arith))) (less_most rows k (λ i d l. small (suc i) d (omega (arith, l))))

pub rows_begun : (n : ℕ) → replicate n (pos 0) ≡ map (less_column []) (up_to n)
rows_begun n = range_zeros (less_column []) 1 n (λ k. refl)

pub rows_step : (rows : List Row) (i n : ℕ) (row : Row) (entries before now : List ℤ) → i < length rows → row ≡ get_or rows i row → entries ≡ row.entries
    → before ≡ map (less_column (take i rows)) (up_to n) → now ≡ map (λ k. entry before k -ℤ entry entries k) (up_to (length before)) → now ≡ map (less_column (take (i + 1) rows)) (up_to n)
rows_step rows i n row entries before now lt at same was is =
    let wide : length before ≡ n = ap (λ (xs : List ℤ). length xs) was ∙ length-map-range_with_len (less_column (take i rows)) 1 n in
    is ∙ ap (λ m. map (λ k. entry before k -ℤ entry entries k) (up_to m)) wide
    ∙ map_range (λ k. entry before k -ℤ entry entries k) (less_column (take (i + 1) rows)) 1 n
    (λ k some most. ap (λ z. z -ℤ entry entries k) (ap (λ (xs : List ℤ). entry xs k) was ∙ entry_at (less_column (take i rows)) n k (omega (arith, some)) (omega (arith, most)))
    ∙ ap (λ (xs : List ℤ). less_column (take i rows) k -ℤ entry xs k) same ∙ less_more rows i k row lt at)

far_bound : (x : ℤ) (n m : ℕ) → unsigned_abs x ≤ n * 4_000_000 → n ≤ m → m < 2 ^ 32 → unsigned_abs x < 2 ^ 99
far_bound x n m h k l = omega (arith, h, k, l)

all_far : (f : ℕ → ℤ) (ks : List ℕ) → ((k : ℕ) → unsigned_abs (f k) < 2 ^ 99) → All (λ x. unsigned_abs x < 2 ^ 99) (map f ks)
all_far f [] h = All-nil (λ x. unsigned_abs x < 2 ^ 99)
all_far f (k ∷ ks) h = All-cons (λ x. unsigned_abs x < 2 ^ 99) (f k) (map f ks) (h k) (all_far f ks h)

pub rows_far : (rows : List Row) (i n : ℕ) (sums : List ℤ) → sums ≡ map (less_column (take i rows)) (up_to n) → All (λ (row : Row). AreSmall row.entries) rows → length rows < 2 ^ 32
    → All (λ x. unsigned_abs x < 2 ^ 99) sums
rows_far rows i n sums is small few =
    let part = All-take (λ (row : Row). AreSmall row.entries) i rows small in
    let fewer : length (take i rows) ≤ length rows = (let size = length-take i rows in omega (arith, size)) in
    subst (All (λ x. unsigned_abs x < 2 ^ 99)) (sym is)
    (all_far (less_column (take i rows)) (up_to n) (λ k. far_bound (less_column (take i rows) k) (length (take i rows)) (length rows) (less_most (take i rows) k part) fewer few))

-- THE COST ROW

take_range : (f : ℕ → ℤ) (a m n : ℕ) → take m (map f (range_with_len a (m + n))) ≡ map f (range_with_len a m)
take_range f a zero n = refl
take_range f a (suc m) n =
    let more : suc m + n ≡ suc (m + n) = omega arith in
    rw more (ap (λ xs. f a ∷ xs) (take_range f (a + 1) m n))

-- zeros and a 1 behind them, where only the last number stays
zeros_written : (r n k : ℕ) (s : List ℤ) → length s ≡ r + 2 → n ≡ r → k ≡ r + 1 → set (replicate r (pos 0) ++ drop r s) n (pos 1) ≡ replicate r (pos 0) ++ pos 1 ∷ get_or s k (pos 0) ∷ []
zeros_written zero n k [] l e f = absurd (omega (arith, l))
zeros_written zero n k (x ∷ []) l e f = absurd (omega (arith, l))
zeros_written zero zero zero (x ∷ y ∷ s) l e f = absurd (omega (arith, f))
zeros_written zero zero (suc zero) (x ∷ y ∷ []) l e f = refl
zeros_written zero zero (suc zero) (x ∷ y ∷ z ∷ s) l e f = absurd (omega (arith, l))
zeros_written zero zero (suc (suc k)) (x ∷ y ∷ s) l e f = absurd (omega (arith, f))
zeros_written zero (suc n) k (x ∷ y ∷ s) l e f = absurd (omega (arith, e))
zeros_written (suc r) n k [] l e f = absurd (omega (arith, l))
zeros_written (suc r) zero k (x ∷ s) l e f = absurd (omega (arith, e))
zeros_written (suc r) (suc n) zero (x ∷ s) l e f = absurd (omega (arith, f))
zeros_written (suc r) (suc n) (suc k) (x ∷ s) l e f = ap (λ (xs : List ℤ). pos 0 ∷ xs) (zeros_written r n k s (omega (arith, l)) (omega (arith, e)) (omega (arith, f)))

-- the same behind the first numbers, which stay
cost_written : (m r n k : ℕ) (s : List ℤ) → length s ≡ m + r + 2 → n ≡ m + r → k ≡ m + r + 1
    → set (take m s ++ (replicate r (pos 0) ++ drop r (drop m s))) n (pos 1) ≡ take m s ++ replicate r (pos 0) ++ pos 1 ∷ get_or s k (pos 0) ∷ []
cost_written zero r n k [] l e f = zeros_written r n k [] (omega (arith, l)) (omega (arith, e)) (omega (arith, f))
cost_written zero r n k (x ∷ s) l e f = zeros_written r n k (x ∷ s) (omega (arith, l)) (omega (arith, e)) (omega (arith, f))
cost_written (suc m) r n k [] l e f = absurd (omega (arith, l))
cost_written (suc m) r zero k (x ∷ s) l e f = absurd (omega (arith, e))
cost_written (suc m) r (suc n) zero (x ∷ s) l e f = absurd (omega (arith, f))
cost_written (suc m) r (suc n) (suc k) (x ∷ s) l e f = ap (λ (xs : List ℤ). x ∷ xs) (cost_written m r n k s (omega (arith, l)) (omega (arith, e)) (omega (arith, f)))

pub cost_filled : (m r : ℕ) (s zeros : List ℤ) → length s ≡ m + r + 2 → zeros ≡ replicate (length (take (m + r - m) (drop m s))) (pos 0)
    → set (take m s ++ (zeros ++ drop (m + r - m) (drop m s))) (m + r) (pos 1) ≡ take m s ++ replicate r (pos 0) ++ pos 1 ∷ get_or s (m + r + 1) (pos 0) ∷ []
cost_filled m r s zeros l e =
    let part : m + r - m ≡ r = omega arith in
    let count : length (take (m + r - m) (drop m s)) ≡ r = (let a = length-take (m + r - m) (drop m s) in let b = length-drop m s in omega (arith, a, b, l)) in
    let same : zeros ≡ replicate r (pos 0) = e ∙ ap (λ n. replicate n (pos 0)) count in
    (λ j. set (take m s ++ (same j ++ drop (part j) (drop m s))) (m + r) (pos 1)) ∙ cost_written m r (m + r) (m + r + 1) s l refl refl

pub cost_is : (m : ℕ) (rows : List Row) (sums : List ℤ) → sums ≡ map (less_column rows) (up_to (m + length rows + 2))
    → take m sums ++ replicate (length rows) (pos 0) ++ pos 1 ∷ get_or sums (m + length rows + 1) (pos 0) ∷ [] ≡ cost_of m rows
cost_is m rows sums e =
    let count : m + length rows + 2 ≡ m + (length rows + 2) = omega arith in
    let first : take m sums ≡ map (less_column rows) (up_to m) = ap (take m) (e ∙ ap (λ n. map (less_column rows) (up_to n)) count) ∙ take_range (less_column rows) 1 m (length rows + 2) in
    let last : get_or sums (m + length rows + 1) (pos 0) ≡ less_column rows (m + length rows + 2) =
    ap (λ (xs : List ℤ). get_or xs (m + length rows + 1) (pos 0)) e
    ∙ get_or-map-range_with_len (less_column rows) 1 (m + length rows + 2) (m + length rows + 1) (m + length rows + 2) (pos 0) (omega arith) (omega arith) in
    λ j. first j ++ replicate (length rows) (pos 0) ++ pos 1 ∷ last j ∷ []

small_in_range : (x : ℤ) (n : ℕ) → unsigned_abs x ≤ n * 4_000_000 → n < 2 ^ 32 → is_in_range x ≡ true
small_in_range x n h l = (let most : unsigned_abs x ≤ 2 ^ 127 - 1 = omega (arith, h, l) in le-leb (unsigned_abs x) (2 ^ 127 - 1) most)

all_columns : (f : ℕ → ℤ) (ks : List ℕ) → ((k : ℕ) → is_in_range (f k) ≡ true) → AreInRange (map f ks)
all_columns f [] h = All-nil (λ x. IsTrue (is_in_range x))
all_columns f (k ∷ ks) h = All-cons (λ x. IsTrue (is_in_range x)) (f k) (map f ks) (h k) (all_columns f ks h)

pub zeros_in_range : (n : ℕ) → AreInRange (replicate n (pos 0))
zeros_in_range zero = All-nil (λ x. IsTrue (is_in_range x))
zeros_in_range (suc n) = All-cons (λ x. IsTrue (is_in_range x)) (pos 0) (replicate n (pos 0)) refl (zeros_in_range n)

pub cost_in_range : (m : ℕ) (rows : List Row) → All (λ (row : Row). AreSmall row.entries) rows → length rows < 2 ^ 32 → AreInRange (cost_of m rows)
cost_in_range m rows small few =
    let fits : (k : ℕ) → is_in_range (less_column rows k) ≡ true = (λ k. small_in_range (less_column rows k) (length rows) (less_most rows k small) few) in
    let p : ℤ → Type 0 = λ x. IsTrue (is_in_range x) in
    let last = less_column rows (m + length rows + 2) in
    All-append p _ _ (All-append p _ _ (all_columns (less_column rows) (up_to m) fits) (zeros_in_range (length rows)))
    (All-cons p (pos 1) (last ∷ []) refl (All-cons p last [] (fits (m + length rows + 2)) (All-nil p)))
