-- Rows and their entries.
use Rattle.std.proofs.Common.{◌≡◌, ◌≢◌, ℕ, zero, suc, ◌+◌, ◌-◌, ◌<◌, ◌≤◌, ◌==◌, Bool, true, false, IsTrue, List, [], ◌∷◌, map, filter, zip, length, ℤ, pos, negsuc, neg_ℤ, ◌⊎◌, inl, inr, refl, sym, ◌∙◌, subst, arith}
use Rattle.std.proofs.lemmas.Bool.Decides.{nat_tests}
use Rattle.std.proofs.lemmas.Bool.{cases_lt, lt-ltb, le-leb}
use Rattle.std.specs.List.{All, range_with_len}
use Rattle.std.proofs.lemmas.List.Elements.{All-nil, All-cons, All-head, All-tail, All-map, All-weaker}
use Rattle.lk_model.specs.Limits.{is_in_range}
use Rattle.lk_model.specs.Lists.{is_nonzero, rises_within}
use Rattle.lk_model.specs.Linear.Rows.{entry}
use Rattle.std.proofs.lemmas.List.FromFn.{get_or-map-range_with_len, length-map-range_with_len}
use Rattle.std.proofs.lemmas.List.{get_or_past}
use Rattle.lk_model.proofs.Rising.{rises, rises_from}
use Rattle.lk_model.proofs.ListTests.{zero_is as zero_from}
use Rattle.exact_rows.specs.declared.sparse.Entry.{Entry}
use Rattle.exact_rows.specs.Made.{AreInRange}
use Rattle.exact_rows.specs.Sparse.{AreEntries, IsEntry, entries_of, value_in_column, row_of, negated}

abbrev pub columns_of : List Entry → List ℕ
columns_of es = map (λ (e : Entry). e.column) es

-- the numbers in n columns after the first ones, and the entries of a row that begins there
abbrev pub row_behind : ℕ → ℕ → List Entry → List ℤ
row_behind low n es = map (value_in_column es) (range_with_len (low + 1) n)

abbrev pub entries_behind : ℕ → List ℤ → List Entry
entries_behind low row = map (λ (k, x). record { column = k; value = x }) (filter (λ (k, x). is_nonzero x) (zip (range_with_len (low + 1) (length row)) row))

-- columns that rise have none before the first
pub number_before : (low high : ℕ) (es : List Entry) (k : ℕ) → rises_within low high (columns_of es) ≡ true → k ≤ low → value_in_column es k ≡ pos 0
number_before low high [] k r h = refl
number_before low high (e ∷ es) k r h =
    let s = rises low high e.column (columns_of es) r in
    let later = number_before e.column high es k s.more (omega (arith, h, s.above)) in
    grind (arith, nat_tests, s.above, later)

-- an entry does not matter after its column
pub without_first : (e : Entry) (es : List Entry) (low n : ℕ) → e.column ≤ low → row_behind low n (e ∷ es) ≡ row_behind low n es
without_first e es low zero h = refl
without_first e es low (suc n) h =
    let here : value_in_column (e ∷ es) (low + 1) ≡ value_in_column es (low + 1) = grind (arith, nat_tests) in
    let later = without_first e es (low + 1) n (omega (arith, h)) in
    λ i. here i ∷ later i

pub nonzero_is : (x : ℤ) → x ≢ pos 0 → is_nonzero x ≡ true
nonzero_is (pos zero) h = absurd (h refl)
nonzero_is (pos (suc n)) h = grind (arith, nat_tests)
nonzero_is (negsuc n) h = grind (arith, nat_tests)

kept_first : (low : ℕ) (x : ℤ) (xs : List ℤ) → is_nonzero x ≡ true → entries_behind low (x ∷ xs) ≡ record { column = low + 1; value = x } ∷ entries_behind (low + 1) xs
kept_first low x xs h = rw h refl

passed_first : (low : ℕ) (x : ℤ) (xs : List ℤ) → is_nonzero x ≡ false → entries_behind low (x ∷ xs) ≡ entries_behind (low + 1) xs
passed_first low x xs h = rw h refl

-- the first entry stands in the next column, or in a later one
pub behind : (low n : ℕ) (e : Entry) (es : List Entry) → rises_within low (low + suc n) (columns_of (e ∷ es)) ≡ true → low + 1 < e.column
    → rises_within (low + 1) (low + 1 + n) (columns_of (e ∷ es)) ≡ true
behind low n e es r above =
    let s = rises low (low + suc n) e.column (columns_of es) r in
    let end : low + suc n ≡ low + 1 + n = omega arith in
    rw (lt-ltb (low + 1) e.column above, le-leb e.column (low + 1 + n) (omega (arith, s.within, end)), rw end at (s.more)) refl

pub behind_first : (low n : ℕ) (e : Entry) (es : List Entry) → rises_within low (low + suc n) (columns_of (e ∷ es)) ≡ true → e.column ≡ low + 1
    → rises_within (low + 1) (low + 1 + n) (columns_of es) ≡ true
behind_first low n e es r same =
    let s = rises low (low + suc n) e.column (columns_of es) r in
    let end : low + suc n ≡ low + 1 + n = omega arith in
    rw (same, end) at (s.more)

pub in_next : (low n : ℕ) (e : Entry) (es : List Entry) → rises_within low (low + suc n) (columns_of (e ∷ es)) ≡ true → (e.column ≡ low + 1) ⊎ (low + 1 < e.column)
in_next low n e es r =
    let s = rises low (low + suc n) e.column (columns_of es) r in
    elim (cases_lt (low + 1) e.column) [
      | inl later ↦ inr later
      | inr most ↦ inl (omega (arith, most, s.above))
    ]

pub number_first : (e : Entry) (es : List Entry) (k : ℕ) → e.column ≡ k → value_in_column (e ∷ es) k ≡ e.value
number_first e es k h = grind (arith, nat_tests)

-- the entries of the row that entries make are these
pub entries_again : (low n : ℕ) (es : List Entry) → rises_within low (low + n) (columns_of es) ≡ true → All IsEntry es → entries_behind low (row_behind low n es) ≡ es
entries_again low zero [] r h = refl
entries_again low zero (e ∷ es) r h = (let s = rises low (low + 0) e.column (columns_of es) r in absurd (omega (arith, s.above, s.within)))
entries_again low (suc n) [] r h = entries_again (low + 1) n [] refl (All-nil IsEntry)
entries_again low (suc n) (e ∷ es) r h = elim (in_next low n e es r) [
  | inl same ↦ (
      let rest = entries_again (low + 1) n es (behind_first low n e es r same) (All-tail IsEntry e es h) in
      let later = without_first e es (low + 1) n (omega (arith, same)) in
      let first : record { column = low + 1; value = e.value } ≡ e = (λ i. record { column = sym same i; value = e.value }) in
      rw (number_first e es (low + 1) same, later) (kept_first low e.value (row_behind (low + 1) n es) (All-head IsEntry e es h).0 ∙ (λ i. first i ∷ rest i)))
  | inr above ↦ (
      let again = behind low n e es r above in
      rw (number_before (low + 1) (low + 1 + n) (e ∷ es) (low + 1) again (omega arith)) (entries_again (low + 1) n (e ∷ es) again h))
]

-- the entries of a row: their columns rise, and each is one
pub entries_rise : (low : ℕ) (row : List ℤ) → rises_within low (low + length row) (columns_of (entries_behind low row)) ≡ true
entries_rise low [] = refl
entries_rise low (x ∷ xs) = at_test (is_nonzero x) refl (subst (λ (h : ℕ). rises_within (low + 1) h (columns_of (entries_behind (low + 1) xs)) ≡ true) (let e : low + 1 + length xs ≡ low + suc (length xs) = omega arith in e) (entries_rise (low + 1) xs))
  where
    at_test : (b : Bool) → is_nonzero x ≡ b → rises_within (low + 1) (low + suc (length xs)) (columns_of (entries_behind (low + 1) xs)) ≡ true
        → rises_within low (low + suc (length xs)) (columns_of (entries_behind low (x ∷ xs))) ≡ true
    at_test true t later = rw (kept_first low x xs t) (rw (lt-ltb low (low + 1) (omega arith), le-leb (low + 1) (low + suc (length xs)) (omega arith), later) refl)
    at_test false t later = rw (passed_first low x xs t) (rises_from low (low + 1) (low + suc (length xs)) (columns_of (entries_behind (low + 1) xs)) (omega arith) later)

pub entries_each : (low : ℕ) (row : List ℤ) → AreInRange row → All IsEntry (entries_behind low row)
entries_each low [] h = All-nil IsEntry
entries_each low (x ∷ xs) h = at_test (is_nonzero x) refl (entries_each (low + 1) xs (All-tail (λ y. IsTrue (is_in_range y)) x xs h))
  where
    at_test : (b : Bool) → is_nonzero x ≡ b → All IsEntry (entries_behind (low + 1) xs) → All IsEntry (entries_behind low (x ∷ xs))
    at_test true t later = rw (kept_first low x xs t) (All-cons IsEntry (record { column = low + 1; value = x }) (entries_behind (low + 1) xs) (t, All-head (λ y. IsTrue (is_in_range y)) x xs h) later)
    at_test false t later = rw (passed_first low x xs t) later

-- the row that the entries of a row make is this row
pub row_again : (low : ℕ) (row : List ℤ) → row_behind low (length row) (entries_behind low row) ≡ row
row_again low [] = refl
row_again low (x ∷ xs) = at_test (is_nonzero x) refl (row_again (low + 1) xs)
  where
    at_test : (b : Bool) → is_nonzero x ≡ b → row_behind (low + 1) (length xs) (entries_behind (low + 1) xs) ≡ xs → row_behind low (suc (length xs)) (entries_behind low (x ∷ xs)) ≡ x ∷ xs
    at_test true t later =
        let first : Entry = record { column = low + 1; value = x } in
        let here = number_first first (entries_behind (low + 1) xs) (low + 1) refl in
        let past = without_first first (entries_behind (low + 1) xs) (low + 1) (length xs) (omega arith) ∙ later in
        subst (λ (es : List Entry). row_behind low (suc (length xs)) es ≡ x ∷ xs) (sym (kept_first low x xs t)) (λ i. here i ∷ past i)
    at_test false t later =
        let none : x ≡ pos 0 = zero_from x t in
        let here = number_before (low + 1) (low + 1 + length xs) (entries_behind (low + 1) xs) (low + 1) (entries_rise (low + 1) xs) (omega arith) ∙ sym none in
        subst (λ (es : List Entry). row_behind low (suc (length xs)) es ≡ x ∷ xs) (sym (passed_first low x xs t)) (λ i. here i ∷ later i)

pub entries_of_row : (n : ℕ) (es : List Entry) → AreEntries n es → entries_of (row_of n es) ≡ es
entries_of_row n es h = entries_again 0 n es (subst (λ (m : ℕ). rises_within 0 m (columns_of es) ≡ true) (let e : n ≡ 0 + n = omega arith in e) h.rise) h.each

pub row_of_entries : (row : List ℤ) → row_of (length row) (entries_of row) ≡ row
row_of_entries row = row_again 0 row

pub are_entries : (row : List ℤ) → AreInRange row → AreEntries (length row) (entries_of row)
are_entries row h = record { rise = subst (λ (m : ℕ). rises_within 0 m (columns_of (entries_of row)) ≡ true) (let e : 0 + length row ≡ length row = omega arith in e) (entries_rise 0 row); each = entries_each 0 row h }

-- after the last column
pub number_past : (low high : ℕ) (es : List Entry) (k : ℕ) → rises_within low high (columns_of es) ≡ true → high < k → value_in_column es k ≡ pos 0
number_past low high [] k r h = refl
number_past low high (e ∷ es) k r h =
    let s = rises low high e.column (columns_of es) r in
    let later = number_past e.column high es k s.more h in
    grind (arith, nat_tests, s.within, later)

-- a number in a column is in range
pub number_in_range : (es : List Entry) (k : ℕ) → All IsEntry es → IsTrue (is_in_range (value_in_column es k))
number_in_range [] k h = refl
number_in_range (e ∷ es) k h = at_test (e.column == k) refl (All-head IsEntry e es h).1 (number_in_range es k (All-tail IsEntry e es h))
  where
    at_test : (b : Bool) → (e.column == k) ≡ b → IsTrue (is_in_range e.value) → IsTrue (is_in_range (value_in_column es k)) → IsTrue (is_in_range (value_in_column (e ∷ es) k))
    at_test true t here later = rw t here
    at_test false t here later = rw t later

-- what stands in a column
pub number_is : (n : ℕ) (es : List Entry) (k : ℕ) → AreEntries n es → 0 < k → value_in_column es k ≡ entry (row_of n es) k
number_is n es k h some = elim (cases_lt n k) [
  | inl past ↦ (
      let size = length-map-range_with_len (value_in_column es) 1 n in
      let none = get_or_past (row_of n es) (k - 1) (pos 0) (omega (arith, size, past)) in
      number_past 0 n es k h.rise past ∙ sym none)
  | inr within ↦ sym (get_or-map-range_with_len (value_in_column es) 1 n (k - 1) k (pos 0) (omega (arith, within, some)) (omega (arith, some)))
]

-- entries times -1
columns-negated : (es : List Entry) → columns_of (map negated es) ≡ columns_of es
columns-negated [] = refl
columns-negated (e ∷ es) = λ i. e.column ∷ columns-negated es i

number-negated : (es : List Entry) (k : ℕ) → value_in_column (map negated es) k ≡ neg_ℤ (value_in_column es k)
number-negated [] k = refl
number-negated (e ∷ es) k = at_test (e.column == k) refl (number-negated es k)
  where
    at_test : (b : Bool) → (e.column == k) ≡ b → value_in_column (map negated es) k ≡ neg_ℤ (value_in_column es k) → value_in_column (map negated (e ∷ es)) k ≡ neg_ℤ (value_in_column (e ∷ es) k)
    at_test true t later = rw t refl
    at_test false t later = rw t later

pub negated-nonzero : (x : ℤ) → is_nonzero x ≡ true → is_nonzero (neg_ℤ x) ≡ true
negated-nonzero (pos zero) h = h
negated-nonzero (pos (suc n)) h = grind (arith, nat_tests)
negated-nonzero (negsuc n) h = grind (arith, nat_tests)

pub negated-in_range : (x : ℤ) → is_in_range x ≡ true → is_in_range (neg_ℤ x) ≡ true
negated-in_range (pos zero) h = h
negated-in_range (pos (suc n)) h = h
negated-in_range (negsuc n) h = h

pub are_entries-negated : (n : ℕ) (es : List Entry) → AreEntries n es → AreEntries n (map negated es)
are_entries-negated n es h = record {
  rise = rw (columns-negated es) h.rise;
  each = All-map IsEntry negated es (All-weaker IsEntry (λ (e : Entry). IsEntry (negated e)) (λ (e : Entry) k. (negated-nonzero e.value k.0, negated-in_range e.value k.1)) es h.each);
}

pub same_map : (f g : ℕ → ℤ) → ((k : ℕ) → f k ≡ g k) → (ks : List ℕ) → map f ks ≡ map g ks
same_map f g h [] = refl
same_map f g h (k ∷ ks) = λ i. h k i ∷ same_map f g h ks i

pub map_twice : (f : ℤ → ℤ) (g : ℕ → ℤ) (ks : List ℕ) → map (λ k. f (g k)) ks ≡ map f (map g ks)
map_twice f g [] = refl
map_twice f g (k ∷ ks) = λ i. f (g k) ∷ map_twice f g ks i

pub row-negated : (n : ℕ) (es : List Entry) → row_of n (map negated es) ≡ map neg_ℤ (row_of n es)
row-negated n es = same_map (value_in_column (map negated es)) (λ k. neg_ℤ (value_in_column es k)) (number-negated es) (range_with_len 1 n) ∙ map_twice neg_ℤ (value_in_column es) (range_with_len 1 n)
