-- Entries of two rows, met column by column.
use Rattle.std.proofs.Common.{◌≡◌, ◌≢◌, ℕ, zero, suc, ◌+◌, ◌-◌, ◌<◌, ◌≤◌, ◌==◌, Bool, true, false, IsTrue, List, [], ◌∷◌, ◌++◌, map, length, min, ℤ, pos, ◌*ℤ◌, ◌-ℤ◌, Some, None, inl, inr, refl, sym, ap, ◌∙◌, subst, arith}
use Rattle.std.proofs.lemmas.Bool.Decides.{nat_tests}
use Rattle.std.proofs.lemmas.Bool.{cases_lt, lt-ltb, le-leb}
use Rattle.std.proofs.lemmas.Int.{ints}
use Rattle.std.proofs.lemmas.List.Elements.{All-push}
use Rattle.std.specs.List.{All, range_with_len}
use Rattle.std.specs.Option.{option_or}
use Rattle.lk_model.specs.Limits.{is_in_range}
use Rattle.lk_model.specs.Lists.{is_nonzero, rises_within}
use Rattle.lk_model.specs.Linear.Arithmetic.{first_wide}
use Rattle.lk_model.specs.declared.wide.Wide.{Wide}
use Rattle.lk_model.proofs.Rising.{rises, rises_from, rises_to}
use Rattle.exact_rows.specs.declared.sparse.Entry.{Entry}
use Rattle.exact_rows.specs.Made.{made_at, made_by, mixed}
use Rattle.exact_rows.specs.Sparse.{AreEntries, IsEntry, value_in_column, row_of}
use Rattle.exact_rows.specs.Merged.{first_number, next_column, past}
use Rattle.exact_rows.proofs.Entries.{columns_of, number_before, number_past}
use Rattle.exact_rows.proofs.Wides.{first_wide-append}

-- RISING COLUMNS

-- from another bound below the first column, and to a higher last column
again : (low mid high : ℕ) (e : Entry) (es : List Entry) → rises_within low high (columns_of (e ∷ es)) ≡ true → mid < e.column → rises_within mid high (columns_of (e ∷ es)) ≡ true
again low mid high e es r h =
    let s = rises low high e.column (columns_of es) r in
    rw (lt-ltb mid e.column h, le-leb e.column high s.within, s.more) refl

rises_push : (low b : ℕ) (es : List Entry) (e : Entry) → rises_within low b (columns_of es) ≡ true → low ≤ b → e.column ≡ b + 1 → rises_within low (b + 1) (columns_of (es ++ e ∷ [])) ≡ true
rises_push low b [] e r h same = rw (lt-ltb low e.column (omega (arith, h, same)), le-leb e.column (b + 1) (omega (arith, same))) refl
rises_push low b (x ∷ xs) e r h same =
    let s = rises low b x.column (columns_of xs) r in
    rw (lt-ltb low x.column s.above, le-leb x.column (b + 1) (omega (arith, s.within)), rises_push x.column b xs e s.more s.within same) refl

number_push-other : (es : List Entry) (e : Entry) (k : ℕ) → e.column ≢ k → value_in_column (es ++ e ∷ []) k ≡ value_in_column es k
number_push-other [] e k h = grind (arith, nat_tests)
number_push-other (x ∷ xs) e k h = at_test (x.column == k) refl (number_push-other xs e k h)
  where
    at_test : (b : Bool) → (x.column == k) ≡ b → value_in_column (xs ++ e ∷ []) k ≡ value_in_column xs k → value_in_column (x ∷ xs ++ e ∷ []) k ≡ value_in_column (x ∷ xs) k
    at_test true t later = rw t refl
    at_test false t later = rw t later

number_push-here : (low b : ℕ) (es : List Entry) (e : Entry) → rises_within low b (columns_of es) ≡ true → e.column ≡ b + 1 → value_in_column (es ++ e ∷ []) (b + 1) ≡ e.value
number_push-here low b [] e r same = grind (arith, nat_tests)
number_push-here low b (x ∷ xs) e r same =
    let s = rises low b x.column (columns_of xs) r in
    let later = number_push-here x.column b xs e s.more same in
    grind (arith, nat_tests, s.within, later)

-- THE FIRST COLUMN

first_is : (b n : ℕ) (es : List Entry) → rises_within b n (columns_of es) ≡ true → first_number es (b + 1) ≡ value_in_column es (b + 1)
first_is b n [] r = refl
first_is b n (e ∷ es) r =
    let s = rises b n e.column (columns_of es) r in
    elim (cases_lt (b + 1) e.column) [
      | inl later ↦ (let none = number_before e.column n es (b + 1) s.more (omega (arith, later)) in grind (arith, nat_tests, later, none))
      | inr most ↦ grind (arith, nat_tests, most, s.above)
    ]

past_rises : (b n : ℕ) (es : List Entry) → rises_within b n (columns_of es) ≡ true → rises_within (b + 1) n (columns_of (past es (b + 1))) ≡ true
past_rises b n [] r = refl
past_rises b n (e ∷ es) r = at_test (e.column == b + 1) refl
  where
    at_test : (t : Bool) → (e.column == b + 1) ≡ t → rises_within (b + 1) n (columns_of (past (e ∷ es) (b + 1))) ≡ true
    at_test true t =
        let s = rises b n e.column (columns_of es) r in
        rw t (rises_from (b + 1) e.column n (columns_of es) (grind (arith, nat_tests)) s.more)
    at_test false t =
        let s = rises b n e.column (columns_of es) r in
        let later : b + 1 < e.column = grind (arith, nat_tests, s.above) in
        rw t (again b (b + 1) n e es r later)

past_same : (b : ℕ) (es : List Entry) (k : ℕ) → b + 1 < k → value_in_column (past es (b + 1)) k ≡ value_in_column es k
past_same b [] k h = refl
past_same b (e ∷ es) k h = at_test (e.column == b + 1) refl
  where
    at_test : (t : Bool) → (e.column == b + 1) ≡ t → value_in_column (past (e ∷ es) (b + 1)) k ≡ value_in_column (e ∷ es) k
    at_test true t = rw t (grind (arith, nat_tests, h))
    at_test false t = rw t refl

-- the next column, and that after which it stands
pub record NextAt (c n column : ℕ) (left right : List Entry) : Type 0 where
  pub before : ℕ
  pub next : column ≡ before + 1
  pub above : c ≤ before
  pub within : before < n
  pub left_rise : rises_within before n (columns_of left) ≡ true
  pub right_rise : rises_within before n (columns_of right) ≡ true

next_at-first : (c n column : ℕ) (left right : List Entry) → c < column → column ≤ n → rises_within (column - 1) n (columns_of left) ≡ true → rises_within (column - 1) n (columns_of right) ≡ true
    → NextAt c n column left right
next_at-first c n column left right above within l r = record {
  before = column - 1;
  next = omega (arith, above);
  above = omega (arith, above);
  within = omega (arith, above, within);
  left_rise = l;
  right_rise = r;
}

pub next_at : (c n column : ℕ) (left right : List Entry) → rises_within c n (columns_of left) ≡ true → rises_within c n (columns_of right) ≡ true → next_column left right ≡ Some column
    → NextAt c n column left right
next_at c n column [] [] l r e = absurd (let f : ⊥ = cc in f)
next_at c n column [] (y ∷ ys) l r e =
    let same : y.column ≡ column = cc in
    let s = rises c n y.column (columns_of ys) r in
    next_at-first c n column [] (y ∷ ys) (omega (arith, same, s.above)) (omega (arith, same, s.within)) refl (again c (column - 1) n y ys r (omega (arith, same, s.above)))
next_at c n column (x ∷ xs) [] l r e =
    let same : x.column ≡ column = cc in
    let s = rises c n x.column (columns_of xs) l in
    next_at-first c n column (x ∷ xs) [] (omega (arith, same, s.above)) (omega (arith, same, s.within)) (again c (column - 1) n x xs l (omega (arith, same, s.above))) refl
next_at c n column (x ∷ xs) (y ∷ ys) l r e =
    let same : min x.column y.column ≡ column = cc in
    let s = rises c n x.column (columns_of xs) l in
    let t = rises c n y.column (columns_of ys) r in
    next_at-first c n column (x ∷ xs) (y ∷ ys) (omega (arith, same, s.above, t.above)) (omega (arith, same, s.within, t.within))
    (again c (column - 1) n x xs l (omega (arith, same, s.above, t.above))) (again c (column - 1) n y ys r (omega (arith, same, s.above, t.above)))

pub none_left : (left right : List Entry) → next_column left right ≡ None → (left ≡ []) × (right ≡ [])
none_left [] [] e = (refl, refl)
none_left [] (y ∷ ys) e = absurd (let f : ⊥ = cc in f)
none_left (x ∷ xs) [] e = absurd (let f : ⊥ = cc in f)
none_left (x ∷ xs) (y ∷ ys) e = absurd (let f : ⊥ = cc in f)

-- fewer entries are left after it
past_fewer : (es : List Entry) (k : ℕ) → length (past es k) ≤ length es
past_fewer [] k = omega arith
past_fewer (e ∷ es) k = at_test (e.column == k) refl
  where
    at_test : (t : Bool) → (e.column == k) ≡ t → length (past (e ∷ es) k) ≤ length (e ∷ es)
    at_test true t = rw t (omega arith)
    at_test false t = rw t (omega arith)

past_first : (e : Entry) (es : List Entry) (k : ℕ) → e.column ≡ k → length (past (e ∷ es) k) < length (e ∷ es)
past_first e es k same = at_test (e.column == k) refl
  where
    at_test : (t : Bool) → (e.column == k) ≡ t → length (past (e ∷ es) k) < length (e ∷ es)
    at_test true t = rw t (omega arith)
    at_test false t = absurd (grind (arith, nat_tests))

pub fewer_left : (left right : List Entry) (k : ℕ) → next_column left right ≡ Some k → length (past left k) + length (past right k) < length left + length right
fewer_left [] [] k e = absurd (let f : ⊥ = cc in f)
fewer_left [] (y ∷ ys) k e = (let same : y.column ≡ k = cc in let p = past_first y ys k same in omega (arith, p))
fewer_left (x ∷ xs) [] k e = (let same : x.column ≡ k = cc in let p = past_first x xs k same in omega (arith, p))
fewer_left (x ∷ xs) (y ∷ ys) k e =
    let same : min x.column y.column ≡ k = cc in
    elim (cases_lt y.column x.column) [
      | inl less ↦ (let p = past_first y ys k (omega (arith, same, less)) in omega (arith, p, past_fewer (x ∷ xs) k))
      | inr most ↦ (let p = past_first x xs k (omega (arith, same, most)) in omega (arith, p, past_fewer (y ∷ ys) k))
    ]

-- ROWS THAT ARE MIXED UP TO A COLUMN

pub record Merged (n c : ℕ) (s t : ℤ) (row other left right out : List Entry) : Type 0 where
  pub width : c ≤ n
  pub left_rise : rises_within c n (columns_of left) ≡ true
  pub right_rise : rises_within c n (columns_of right) ≡ true
  pub left_same : (k : ℕ) → c < k → value_in_column left k ≡ value_in_column row k
  pub right_same : (k : ℕ) → c < k → value_in_column right k ≡ value_in_column other k
  pub out_rise : rises_within 0 c (columns_of out) ≡ true
  pub out_each : All IsEntry out
  pub in_range : (k : ℕ) → 0 < k → k ≤ c → first_wide (made_at s t (value_in_column row k) (value_in_column other k)) ≡ None
  pub out_same : (k : ℕ) → 0 < k → k ≤ c → value_in_column out k ≡ s *ℤ value_in_column row k -ℤ t *ℤ value_in_column other k

times_zero : (s : ℤ) → s *ℤ pos 0 ≡ pos 0
times_zero s = omega (arith, ints)

zeros_mixed : (s t x y : ℤ) → x ≡ pos 0 → y ≡ pos 0 → s *ℤ x -ℤ t *ℤ y ≡ pos 0
zeros_mixed s t x y e f = rw (e, f, times_zero s, times_zero t) refl

zeros_in_range : (s t x y : ℤ) → x ≡ pos 0 → y ≡ pos 0 → first_wide (made_at s t x y) ≡ None
unfolding first_wide
zeros_in_range s t x y e f = rw (e, f, times_zero s, times_zero t) refl

-- columns in which neither row has an entry
pub skipped : (n c b : ℕ) (s t : ℤ) (row other left right out : List Entry) → c ≤ b → b ≤ n → rises_within b n (columns_of left) ≡ true → rises_within b n (columns_of right) ≡ true
    → Merged n c s t row other left right out → Merged n b s t row other left right out
skipped n c b s t row other left right out h k l r m =
    let none_left : (i : ℕ) → c < i → i ≤ b → value_in_column row i ≡ pos 0 = (λ i above most. sym (m.left_same i above) ∙ number_before b n left i l most) in
    let none_right : (i : ℕ) → c < i → i ≤ b → value_in_column other i ≡ pos 0 = (λ i above most. sym (m.right_same i above) ∙ number_before b n right i r most) in
    record {
      width = k;
      left_rise = l;
      right_rise = r;
      left_same = λ i above. m.left_same i (omega (arith, h, above));
      right_same = λ i above. m.right_same i (omega (arith, h, above));
      out_rise = rises_to 0 c b (columns_of out) h m.out_rise;
      out_each = m.out_each;
      in_range = λ i some most. elim (cases_lt c i) [
        | inl above ↦ zeros_in_range s t (value_in_column row i) (value_in_column other i) (none_left i above most) (none_right i above most)
        | inr before ↦ m.in_range i some before
      ];
      out_same = λ i some most. elim (cases_lt c i) [
        | inl above ↦ number_past 0 c out i m.out_rise above ∙ sym (zeros_mixed s t (value_in_column row i) (value_in_column other i) (none_left i above most) (none_right i above most))
        | inr before ↦ m.out_same i some before
      ];
    }

-- the numbers of the whole rows in the next column
module _ (n b : ℕ) (s t : ℤ) (row other left right out : List Entry) (m : Merged n b s t row other left right out) where
  first_left : first_number left (b + 1) ≡ value_in_column row (b + 1)
  first_left = first_is b n left m.left_rise ∙ m.left_same (b + 1) (omega arith)

  first_right : first_number right (b + 1) ≡ value_in_column other (b + 1)
  first_right = first_is b n right m.right_rise ∙ m.right_same (b + 1) (omega arith)

  -- after the next column, where these are its entries
  pub stepped : (z : ℤ) (now : List Entry) → b < n → first_wide (made_at s t (first_number left (b + 1)) (first_number right (b + 1))) ≡ None
      → z ≡ s *ℤ first_number left (b + 1) -ℤ t *ℤ first_number right (b + 1)
      → rises_within 0 (b + 1) (columns_of now) ≡ true → All IsEntry now → value_in_column now (b + 1) ≡ z → ((k : ℕ) → 0 < k → k ≤ b → value_in_column now k ≡ value_in_column out k)
      → Merged n (b + 1) s t row other (past left (b + 1)) (past right (b + 1)) now
  stepped z now h none value rise each here before = record {
    width = omega (arith, h);
    left_rise = past_rises b n left m.left_rise;
    right_rise = past_rises b n right m.right_rise;
    left_same = λ i above. past_same b left i above ∙ m.left_same i (omega (arith, above));
    right_same = λ i above. past_same b right i above ∙ m.right_same i (omega (arith, above));
    out_rise = rise;
    out_each = each;
    in_range = λ i some most. elim (cases_lt i (b + 1)) [
      | inl earlier ↦ m.in_range i some (omega (arith, earlier))
      | inr last ↦ (let same : b + 1 ≡ i = omega (arith, last, most) in
          subst (λ (k : ℕ). first_wide (made_at s t (value_in_column row k) (value_in_column other k)) ≡ None) same
          (subst (λ (x : ℤ). first_wide (made_at s t x (value_in_column other (b + 1))) ≡ None) first_left (subst (λ (y : ℤ). first_wide (made_at s t (first_number left (b + 1)) y) ≡ None) first_right none)))
    ];
    out_same = λ i some most. elim (cases_lt i (b + 1)) [
      | inl earlier ↦ before i some (omega (arith, earlier)) ∙ m.out_same i some (omega (arith, earlier))
      | inr last ↦ (let same : b + 1 ≡ i = omega (arith, last, most) in
          subst (λ (k : ℕ). value_in_column now k ≡ s *ℤ value_in_column row k -ℤ t *ℤ value_in_column other k) same
          (here ∙ value ∙ ap (λ x. s *ℤ x -ℤ t *ℤ first_number right (b + 1)) first_left ∙ ap (λ y. s *ℤ value_in_column row (b + 1) -ℤ t *ℤ y) first_right))
    ];
  }

  -- nothing is kept where the number is 0
  pub stepped-zero : (z : ℤ) → b < n → first_wide (made_at s t (first_number left (b + 1)) (first_number right (b + 1))) ≡ None
      → z ≡ s *ℤ first_number left (b + 1) -ℤ t *ℤ first_number right (b + 1) → z ≡ pos 0
      → Merged n (b + 1) s t row other (past left (b + 1)) (past right (b + 1)) out
  stepped-zero z h none value is_zero =
      stepped z out h none value (rises_to 0 b (b + 1) (columns_of out) (omega arith) m.out_rise) m.out_each (number_past 0 b out (b + 1) m.out_rise (omega arith) ∙ sym is_zero) (λ k _ _. refl)

  pub stepped-push : (z : ℤ) → b < n → first_wide (made_at s t (first_number left (b + 1)) (first_number right (b + 1))) ≡ None
      → z ≡ s *ℤ first_number left (b + 1) -ℤ t *ℤ first_number right (b + 1) → IsTrue (is_nonzero z) → IsTrue (is_in_range z)
      → Merged n (b + 1) s t row other (past left (b + 1)) (past right (b + 1)) (out ++ record { column = b + 1; value = z } ∷ [])
  stepped-push z h none value nonzero range =
      let e : Entry = record { column = b + 1; value = z } in
      stepped z (out ++ e ∷ []) h none value (rises_push 0 b out e m.out_rise (omega arith) refl) (All-push IsEntry out e m.out_each (nonzero, range))
      (number_push-here 0 b out e m.out_rise refl) (λ k some most. number_push-other out e k (λ (same : b + 1 ≡ k). omega (arith, same, most)))

-- WHOLE ROWS

none_wide : (s t : ℤ) (f g : ℕ → ℤ) (a n : ℕ) → ((k : ℕ) → a ≤ k → k < a + n → first_wide (made_at s t (f k) (g k)) ≡ None)
    → first_wide (made_by s t (map f (range_with_len a n)) (map g (range_with_len a n))) ≡ None
unfolding first_wide
none_wide s t f g a zero h = refl
none_wide s t f g a (suc n) h =
    let here = h a (omega arith) (omega arith) in
    let later = none_wide s t f g (a + 1) n (λ k most least. h k (omega (arith, most)) (omega (arith, least))) in
    let rest = made_by s t (map f (range_with_len (a + 1) n)) (map g (range_with_len (a + 1) n)) in
    first_wide-append (made_at s t (f a) (g a)) rest ∙ ap (λ w. option_or w (first_wide rest)) here ∙ later

some_wide : (s t : ℤ) (f g : ℕ → ℤ) (a n d : ℕ) (w : Wide) → a ≤ d → d < a + n → ((k : ℕ) → a ≤ k → k < d → first_wide (made_at s t (f k) (g k)) ≡ None)
    → first_wide (made_at s t (f d) (g d)) ≡ Some w
    → first_wide (made_by s t (map f (range_with_len a n)) (map g (range_with_len a n))) ≡ Some w
some_wide s t f g a zero d w least most h e = absurd (omega (arith, least, most))
some_wide s t f g a (suc n) d w least most h e =
    let others = made_by s t (map f (range_with_len (a + 1) n)) (map g (range_with_len (a + 1) n)) in
    let both = first_wide-append (made_at s t (f a) (g a)) others in
    elim (cases_lt a d) [
      | inl later ↦ (
          let here = h a (omega arith) later in
          let rest = some_wide s t f g (a + 1) n d w (omega (arith, later)) (omega (arith, most)) (λ k above below. h k (omega (arith, above)) below) e in
          both ∙ ap (λ v. option_or v (first_wide others)) here ∙ rest)
      | inr last ↦ (
          let same : d ≡ a = omega (arith, least, last) in
          let here = subst (λ (k : ℕ). first_wide (made_at s t (f k) (g k)) ≡ Some w) same e in
          both ∙ ap (λ v. option_or v (first_wide others)) here)
    ]

mixed_along : (s t : ℤ) (h f g : ℕ → ℤ) (a n : ℕ) → ((k : ℕ) → a ≤ k → k < a + n → h k ≡ s *ℤ f k -ℤ t *ℤ g k)
    → map h (range_with_len a n) ≡ mixed s t (map f (range_with_len a n)) (map g (range_with_len a n))
mixed_along s t h f g a zero e = refl
mixed_along s t h f g a (suc n) e =
    let here = e a (omega arith) (omega arith) in
    let later = mixed_along s t h f g (a + 1) n (λ k most least. e k (omega (arith, most)) (omega (arith, least))) in
    λ i. here i ∷ later i

-- at the end
pub record IsMixed (n : ℕ) (s t : ℤ) (row other out : List Entry) : Type 0 where
  pub none : first_wide (made_by s t (row_of n row) (row_of n other)) ≡ None
  pub entries : AreEntries n out
  pub value : row_of n out ≡ mixed s t (row_of n row) (row_of n other)

pub ended : (n c : ℕ) (s t : ℤ) (row other left right out : List Entry) → next_column left right ≡ None → Merged n c s t row other left right out → IsMixed n s t row other out
ended n c s t row other left right out e m =
    let none = none_left left right e in
    let l : rises_within n n (columns_of left) ≡ true = rw (none.0) refl in
    let r : rises_within n n (columns_of right) ≡ true = rw (none.1) refl in
    let all = skipped n c n s t row other left right out m.width (omega arith) l r m in
    record {
      none = none_wide s t (value_in_column row) (value_in_column other) 1 n (λ k some most. all.in_range k (omega (arith, some)) (omega (arith, most)));
      entries = record { rise = all.out_rise; each = all.out_each };
      value = mixed_along s t (value_in_column out) (value_in_column row) (value_in_column other) 1 n (λ k some most. all.out_same k (omega (arith, some)) (omega (arith, most)));
    }

-- at a result that is out of range
pub stopped : (n b : ℕ) (s t : ℤ) (row other left right out : List Entry) (w : Wide) → b < n → Merged n b s t row other left right out
    → first_wide (made_at s t (first_number left (b + 1)) (first_number right (b + 1))) ≡ Some w
    → first_wide (made_by s t (row_of n row) (row_of n other)) ≡ Some w
stopped n b s t row other left right out w h m e =
    let one = subst (λ (x : ℤ). first_wide (made_at s t x (first_number right (b + 1))) ≡ Some w) (first_left n b s t row other left right out m) e in
    let both = subst (λ (y : ℤ). first_wide (made_at s t (value_in_column row (b + 1)) y) ≡ Some w) (first_right n b s t row other left right out m) one in
    some_wide s t (value_in_column row) (value_in_column other) 1 n (b + 1) w (omega arith) (omega (arith, h)) (λ k some most. m.in_range k (omega (arith, some)) (omega (arith, most))) both

-- THE NEXT COLUMN

module _ (n c column : ℕ) (s t : ℤ) (row other left right out : List Entry) (m : Merged n c s t row other left right out) (next : next_column left right ≡ Some column) where
  pub place : NextAt c n column left right
  place = next_at c n column left right m.left_rise m.right_rise next

  before_it : Merged n place.before s t row other left right out
  before_it = skipped n c place.before s t row other left right out place.above (omega (arith, place.within)) place.left_rise place.right_rise m

  pub stopped_at : (w : Wide) → Some w ≡ first_wide (made_at s t (first_number left column) (first_number right column)) → first_wide (made_by s t (row_of n row) (row_of n other)) ≡ Some w
  stopped_at w e =
      stopped n place.before s t row other left right out w place.within before_it
      (subst (λ (k : ℕ). first_wide (made_at s t (first_number left k) (first_number right k)) ≡ Some w) place.next (sym e))

  pub zero_at : (z : ℤ) → None ≡ first_wide (made_at s t (first_number left column) (first_number right column))
      → z ≡ s *ℤ first_number left column -ℤ t *ℤ first_number right column → z ≡ pos 0
      → Merged n (place.before + 1) s t row other (past left column) (past right column) out
  zero_at z e value is_zero =
      subst (λ (k : ℕ). Merged n (place.before + 1) s t row other (past left k) (past right k) out) (sym place.next)
      (stepped-zero n place.before s t row other left right out before_it z place.within
      (subst (λ (k : ℕ). first_wide (made_at s t (first_number left k) (first_number right k)) ≡ None) place.next (sym e))
      (subst (λ (k : ℕ). z ≡ s *ℤ first_number left k -ℤ t *ℤ first_number right k) place.next value) is_zero)

  pub pushed_at : (z : ℤ) → None ≡ first_wide (made_at s t (first_number left column) (first_number right column))
      → z ≡ s *ℤ first_number left column -ℤ t *ℤ first_number right column → IsTrue (is_nonzero z) → IsTrue (is_in_range z)
      → Merged n (place.before + 1) s t row other (past left column) (past right column) (out ++ record { column = column; value = z } ∷ [])
  pushed_at z e value nonzero range =
      subst (λ (k : ℕ). Merged n (place.before + 1) s t row other (past left k) (past right k) (out ++ record { column = k; value = z } ∷ [])) (sym place.next)
      (stepped-push n place.before s t row other left right out before_it z place.within
      (subst (λ (k : ℕ). first_wide (made_at s t (first_number left k) (first_number right k)) ≡ None) place.next (sym e))
      (subst (λ (k : ℕ). z ≡ s *ℤ first_number left k -ℤ t *ℤ first_number right k) place.next value) nonzero range)
