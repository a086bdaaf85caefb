-- The content of a row, and of its entries, and entries that are divided by it.
use Rattle.std.proofs.Common.{◌≡◌, ℕ, zero, suc, ◌+◌, ◌-◌, ◌*◌, ◌/◌, ◌%◌, ◌^◌, ◌<◌, ◌≤◌, ◌==◌, Bool, true, false, inl, inr, List, [], ◌∷◌, map, drop, get_or, length, ℤ, pos, negsuc, ◌≤ℤ◌, int_div, unsigned_abs, refl, sym, ap, ◌∙◌, subst, arith}
use Rattle.std.proofs.lemmas.Int.{ints}
use Rattle.std.specs.Int.{◌∣◌}
use Rattle.std.specs.List.{All, range_with_len}
use Rattle.std.proofs.Math.Nat.{le_of_dvd, div-add-mod, mod-lt, pos_of_ne-zero, eq-zero_of_zero-dvd, zero-div}
use Rattle.std.proofs.lemmas.Bool.{leb-true, le-leb}
use Rattle.std.proofs.lemmas.Nat.Gcd.{dvd_trans, dvd_refl}
use Rattle.std.proofs.lemmas.List.{drop-map, drop_more}
use Rattle.std.proofs.lemmas.List.Elements.{All-nil, All-cons, All-head, All-map}
use Rattle.lk_model.specs.Limits.{is_in_range}
use Rattle.lk_model.specs.Lists.{is_nonzero, rises_within}
use Rattle.lk_model.specs.Linear.Arithmetic.{gcd, gcd_of, content, primitive}
use Rattle.lk_model.proofs.GcdLaws.{gcd_is_gcd}
use Rattle.lk_model.proofs.Rising.{rises}
use Rattle.exact_rows.specs.declared.sparse.Entry.{Entry}
use Rattle.exact_rows.specs.Sparse.{AreEntries, IsEntry, value_in_column, row_of}
use Rattle.exact_rows.specs.Merged.{content_of, divided}
use Rattle.exact_rows.proofs.Divisors.{gcd_some, gcd_comm, gcd-zero_left}
use Rattle.exact_rows.proofs.Quotients.{quotient_le, quotient-one}
use Rattle.exact_rows.proofs.Entries.{columns_of, row_behind, without_first, behind, behind_first, in_next, number_before, number_first, nonzero_is, negated-nonzero, same_map, map_twice}

-- a content of 1 stays
gcd-one : (a : ℕ) → gcd a 1 ≡ 1
gcd-one a =
    let most : gcd a 1 ≤ 1 = le_of_dvd (let h : 0 < 1 = omega arith in h) ((gcd_is_gcd a 1).1) in
    let least = gcd_some 1 a (let h : 0 < 1 = omega arith in h) in
    omega (arith, most, least, gcd_comm 1 a)

pub content-one : (i : ℕ) (xs : List ℤ) → pos 1 ≡ content (drop i xs) → pos 1 ≡ content xs
content-one zero xs h = h
content-one (suc i) [] h = h
content-one (suc i) (x ∷ xs) h =
    let later = content-one i xs h in
    sym (ap (λ g. gcd_of x g) (sym later) ∙ ap pos (gcd-one (unsigned_abs x)))

pub content_of-one : (i : ℕ) (es : List Entry) → pos 1 ≡ content_of (drop i es) → pos 1 ≡ content_of es
content_of-one i es h = content-one i (map (λ (e : Entry). e.value) es) (h ∙ ap content (sym (drop-map (λ (e : Entry). e.value) i es)))

-- one number more
pub content-more : (xs : List ℤ) (k i : ℕ) (g : ℤ) → k < length xs → k + 1 ≡ i → g ≡ content (drop i xs) → gcd_of (get_or xs k (pos 0)) g ≡ content (drop k xs)
content-more xs k i g lt next so_far =
    ap (gcd_of (get_or xs k (pos 0))) (so_far ∙ ap (λ (j : ℕ). content (drop j xs)) (sym next)) ∙ sym (ap content (drop_more xs k (pos 0) lt))

pub content_of-more : (es : List Entry) (k i : ℕ) (d : Entry) (g : ℤ) → k < length es → k + 1 ≡ i → g ≡ content_of (drop i es)
    → gcd_of (get_or es k d).value g ≡ content_of (drop k es)
content_of-more es k i d g lt next so_far =
    ap (gcd_of (get_or es k d).value) (so_far ∙ ap (λ (j : ℕ). content_of (drop j es)) (sym next)) ∙ sym (ap content_of (drop_more es k d lt))

-- zeros do not matter
content-pos : (xs : List ℤ) → pos (unsigned_abs (content xs)) ≡ content xs
content-pos [] = refl
content-pos (x ∷ xs) = refl

content-zero : (xs : List ℤ) → content (pos 0 ∷ xs) ≡ content xs
content-zero xs = ap pos (gcd-zero_left (unsigned_abs (content xs))) ∙ content-pos xs

content_behind : (low n : ℕ) (es : List Entry) → rises_within low (low + n) (columns_of es) ≡ true → content (row_behind low n es) ≡ content_of es
content_behind low zero [] r = refl
content_behind low zero (e ∷ es) r = (let s = rises low (low + 0) e.column (columns_of es) r in absurd (omega (arith, s.above, s.within)))
content_behind low (suc n) [] r = content-zero (row_behind (low + 1) n []) ∙ content_behind (low + 1) n [] refl
content_behind low (suc n) (e ∷ es) r = elim (in_next low n e es r) [
  | inl same ↦ (
      let rest = content_behind (low + 1) n es (behind_first low n e es r same) in
      let later = without_first e es (low + 1) n (omega (arith, same)) in
      rw (number_first e es (low + 1) same, later) (ap (λ g. gcd_of e.value g) rest))
  | inr above ↦ (
      let again = behind low n e es r above in
      rw (number_before (low + 1) (low + 1 + n) (e ∷ es) (low + 1) again (omega arith)) (content-zero (row_behind (low + 1) n (e ∷ es)) ∙ content_behind (low + 1) n (e ∷ es) again))
]

pub content_row : (n : ℕ) (es : List Entry) → AreEntries n es → content (row_of n es) ≡ content_of es
content_row n es h = content_behind 0 n es (subst (λ (m : ℕ). rises_within 0 m (columns_of es) ≡ true) (let e : n ≡ 0 + n = omega arith in e) h.rise)

-- THE QUOTIENTS

-- the content divides each number
divides : (g : ℕ) (es : List Entry) → g ∣ unsigned_abs (content_of es) → All (λ (e : Entry). g ∣ unsigned_abs e.value) es
divides g [] h = All-nil (λ (e : Entry). g ∣ unsigned_abs e.value)
divides g (e ∷ es) h =
    let both = gcd_is_gcd (unsigned_abs e.value) (unsigned_abs (content_of es)) in
    All-cons (λ (f : Entry). g ∣ unsigned_abs f.value) e es (dvd_trans g h both.0) (divides g es (dvd_trans g h both.1))

quotient_some : (a g : ℕ) → 0 < a → g ∣ a → 0 < a / g
quotient_some a zero some d = absurd (let none = eq-zero_of_zero-dvd d in omega (arith, some, none))
quotient_some a (suc g) some d = pos_of_ne-zero (λ e. (
    let whole = div-add-mod a (suc g) in
    let small : a % suc g < suc g = mod-lt a (omega arith) in
    let all : suc g * 0 + a % suc g ≡ a = subst (λ q. suc g * q + a % suc g ≡ a) e whole in
    let most = le_of_dvd some d in
    omega (arith, all, small, most)))

nonzero_number : (n : ℕ) → 0 < n → is_nonzero (pos n) ≡ true
nonzero_number zero h = absurd (omega (arith, h))
nonzero_number (suc n) h = nonzero_is (pos (suc n)) (λ e. (let f = ap unsigned_abs e in omega (arith, f)))

quotient-nonzero : (x : ℤ) (g : ℕ) → is_nonzero x ≡ true → g ∣ unsigned_abs x → is_nonzero (int_div x (pos g)) ≡ true
quotient-nonzero (pos zero) g h d = absurd (let f : ⊥ = cc in f)
quotient-nonzero (pos (suc a)) g h d = nonzero_number (suc a / g) (quotient_some (suc a) g (omega arith) d)
quotient-nonzero (negsuc a) g h d = negated-nonzero (pos (suc a / g)) (nonzero_number (suc a / g) (quotient_some (suc a) g (omega arith) d))

quotient-in_range : (x : ℤ) (g : ℕ) → is_in_range x ≡ true → is_in_range (int_div x (pos g)) ≡ true
quotient-in_range x g h =
    let most = leb-true (unsigned_abs x) (2 ^ 127 - 1) h in
    le-leb (unsigned_abs (int_div x (pos g))) (2 ^ 127 - 1) (omega (arith, most, quotient_le x g))

columns-divided : (g : ℤ) (es : List Entry) → columns_of (map (divided g) es) ≡ columns_of es
columns-divided g [] = refl
columns-divided g (e ∷ es) = λ i. e.column ∷ columns-divided g es i

number-divided : (g : ℕ) (es : List Entry) (k : ℕ) → value_in_column (map (divided (pos g)) es) k ≡ int_div (value_in_column es k) (pos g)
number-divided g [] k = ap pos (sym (zero-div g))
number-divided g (e ∷ es) k = at_test (e.column == k) refl (number-divided g es k)
  where
    at_test : (b : Bool) → (e.column == k) ≡ b → value_in_column (map (divided (pos g)) es) k ≡ int_div (value_in_column es k) (pos g)
        → value_in_column (map (divided (pos g)) (e ∷ es)) k ≡ int_div (value_in_column (e ∷ es) k) (pos g)
    at_test true t later = rw t refl
    at_test false t later = rw t later

-- the entries that are divided are those of the row that is
are_entries-over : (n g : ℕ) (es : List Entry) → AreEntries n es → g ∣ unsigned_abs (content_of es) → AreEntries n (map (divided (pos g)) es)
are_entries-over n g es h d = record {
  rise = rw (columns-divided (pos g) es) h.rise;
  each = All-map IsEntry (divided (pos g)) es (All-both es h.each (divides g es d));
}
  where
    All-both : (fs : List Entry) → All IsEntry fs → All (λ (e : Entry). g ∣ unsigned_abs e.value) fs → All (λ (e : Entry). IsEntry (divided (pos g) e)) fs
    All-both fs a b = λ k f h. (quotient-nonzero (get_or fs k f).value g (a k f h).0 (b k f h), quotient-in_range (get_or fs k f).value g (a k f h).1)

pub are_entries-divided : (n : ℕ) (es : List Entry) → AreEntries n es → AreEntries n (map (divided (content_of es)) es)
are_entries-divided n es h =
    subst (λ (g : ℤ). AreEntries n (map (divided g) es)) (content-pos (map (λ (e : Entry). e.value) es)) (are_entries-over n (unsigned_abs (content_of es)) es h (dvd_refl (unsigned_abs (content_of es))))

row-over : (n g : ℕ) (es : List Entry) → row_of n (map (divided (pos g)) es) ≡ map (λ x. int_div x (pos g)) (row_of n es)
row-over n g es =
    same_map (value_in_column (map (divided (pos g)) es)) (λ k. int_div (value_in_column es k) (pos g)) (number-divided g es) (range_with_len 1 n)
    ∙ map_twice (λ x. int_div x (pos g)) (value_in_column es) (range_with_len 1 n)

pub row-divided : (n : ℕ) (es : List Entry) → AreEntries n es → row_of n (map (divided (content_of es)) es) ≡ primitive (row_of n es)
row-divided n es h =
    let over = subst (λ (g : ℤ). row_of n (map (divided g) es) ≡ map (λ x. int_div x g) (row_of n es)) (content-pos (map (λ (e : Entry). e.value) es)) (row-over n (unsigned_abs (content_of es)) es) in
    over ∙ ap (λ g. map (λ x. int_div x g) (row_of n es)) (sym (content_row n es h))

-- nothing is to be divided
divided-one : (es : List Entry) → map (divided (pos 1)) es ≡ es
divided-one [] = refl
divided-one (e ∷ es) = λ i. record { column = e.column; value = quotient-one e.value i } ∷ divided-one es i

pub divided_already : (es : List Entry) (g : ℤ) → All IsEntry es → g ≡ content_of es → g ≤ℤ pos 1 → es ≡ map (divided (content_of es)) es
divided_already [] g h e least = refl
divided_already (f ∷ es) g h e least =
    let some : 0 < unsigned_abs (content_of (f ∷ es)) = gcd_some (unsigned_abs f.value) (unsigned_abs (content_of es)) (abs-nonzero f.value (All-head IsEntry f es h).0) in
    let one : content_of (f ∷ es) ≡ pos 1 = ap pos (let n : unsigned_abs (content_of (f ∷ es)) ≡ 1 = omega (arith, ints, some, rw e at least) in n) in
    sym (ap (λ d. map (divided d) (f ∷ es)) one ∙ divided-one (f ∷ es))
  where
    abs-nonzero : (x : ℤ) → is_nonzero x ≡ true → 0 < unsigned_abs x
    abs-nonzero (pos zero) k = absurd (let a : ⊥ = cc in a)
    abs-nonzero (pos (suc a)) k = omega arith
    abs-nonzero (negsuc a) k = omega arith
