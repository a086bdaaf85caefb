-- Digits with no zero in front are the shortest spelling of their value.
use Rattle.std.proofs.Common.{rules, ◌≡◌, ℕ, zero, suc, ◌+◌, ◌-◌, ◌*◌, ◌/◌, ◌%◌, ◌<◌, ◌≤◌, ◌^◌, ◌∙◌, ◌⊎◌, sym, Bool, true, false, cond, not, ◌&&◌, ◌==◌, List, [], ◌∷◌, ◌++◌, length, get_or, refl, ap, subst, arith, inl, inr, ℤ, pos, negsuc, Option, Some, None, append_assoc}
use Rattle.std.specs.Prelude.{nat_lt, IfSome, unsigned_abs}
use Rattle.std.specs.List.{list_all, fold}
use Rattle.std.specs.Fmt.{decimal, signed_decimal}
use Rattle.std.specs.Str.{bytes_eq}
use Rattle.std.specs.Char.{is_ascii_digit}
use Rattle.std.proofs.lemmas.Bool.{cases_Bool, eqb-true, leb-true, lt-ltb}
use Rattle.std.proofs.lemmas.Fmt.{decimal_digit, decimal_step_wide, decimal_by_steps_wide}
use Rattle.std.proofs.lemmas.List.{append-nil}
use Rattle.std.proofs.lemmas.List.Sums.{fold_push, fold-append}
use Rattle.std.proofs.lemmas.Slice.Eq.{bytes_eq-Decides}
use Rattle.std.proofs.lemmas.Str.Parse.{IsNumeralModel, numerals_by_fold}
use Rattle.lk_model.proofs.Booleans.{and_true}
use Rattle.lk_model.proofs.Spellings.{digit_range}
use Rattle.lk_model.specs.Limits.{is_in_range}
use Rattle.lk_model.specs.Texts.Lines.{Word}
use Rattle.lk_model.specs.Texts.NumberWords.{digits_value, natural, number, negated, not_negated}
use Rattle.lk_text.specs.Kinds.{if_in_range, begins_with_zero}

-- a digit more
abbrev step : ℕ → ℕ → ℕ
step n d = 10 * n + (d - 48)

-- our digits are std's
pub own : IsNumeralModel (λ ds. list_all is_ascii_digit ds ≡ true) digits_value
own = numerals_by_fold (λ ds. list_all is_ascii_digit ds ≡ true) (search rules) (λ n ds. fold step n ds) (search rules)

pub digit_most : (d : ℕ) → is_ascii_digit d ≡ true → d ≤ 57
digit_most d h = (digit_range d h).1

-- the value does not get less by more digits
grows : (n : ℕ) (ds : List ℕ) → n ≤ fold step n ds
grows n [] = omega arith
grows n (d ∷ ds) = omega (arith, grows (10 * n + (d - 48)) ds)

-- digits that are the shortest spelling of a value above 0
record AreShortest (ds : List ℕ) : Type 0 where
  some : 0 < digits_value ds
  spelled : decimal (digits_value ds) ≡ ds

one_spelled : (d : ℕ) → is_ascii_digit d ≡ true → decimal (digits_value (d ∷ [])) ≡ d ∷ []
one_spelled d h =
    let range = digit_range d h in
    let value : digits_value (d ∷ []) ≡ d - 48 = omega arith in
    let back : 48 + (d - 48) ≡ d = omega (arith, range.0) in
    ap (λ (n : ℕ). decimal n) value ∙ decimal_digit (d - 48) (omega (arith, range.1)) ∙ ap (λ (c : ℕ). c ∷ []) back

first_digit : (d : ℕ) → is_ascii_digit d ≡ true → (d ≡ 48 → ⊥) → AreShortest (d ∷ [])
first_digit d h other = record { some = omega (arith, (digit_range d h).0, other); spelled = one_spelled d h }

spelled_more : (v n d : ℕ) (ds : List ℕ) → v ≡ 10 * n + (d - 48) → 48 ≤ d → d ≤ 57 → 0 < n → v < 10 ^ 64 → decimal n ≡ ds → decimal v ≡ ds ++ d ∷ []
spelled_more v n d ds e low high some fits s =
    let tens : v / 10 ≡ n = omega (arith, e, low, high) in
    let ones : 48 + v % 10 ≡ d = omega (arith, e, low, high) in
    decimal_step_wide v (omega (arith, e, some)) fits
    ∙ ap (λ (m : ℕ). decimal m ++ (48 + v % 10) ∷ []) tens
    ∙ ap (λ (us : List ℕ). us ++ (48 + v % 10) ∷ []) s
    ∙ ap (λ (c : ℕ). ds ++ c ∷ []) ones

next_digit : (ds : List ℕ) (d : ℕ) → is_ascii_digit d ≡ true → digits_value (ds ++ d ∷ []) < 10 ^ 64 → AreShortest ds → AreShortest (ds ++ d ∷ [])
next_digit ds d h fits s =
    let range = digit_range d h in
    let value : digits_value (ds ++ d ∷ []) ≡ 10 * digits_value ds + (d - 48) = fold_push step 0 ds d in
    record {
      some = omega (arith, value, s.some);
      spelled = spelled_more (digits_value (ds ++ d ∷ [])) (digits_value ds) d ds value range.0 range.1 s.some fits s.spelled;
    }

least : {m n v w : ℕ} → m ≤ n → v ≡ n → v < w → m < w
least {m} {n} {v} {w} low e high = omega (arith, low, e, high)

more_digits : (front ds : List ℕ) → list_all is_ascii_digit ds ≡ true → digits_value (front ++ ds) < 10 ^ 64 → AreShortest front → AreShortest (front ++ ds)
more_digits front [] h fits s = subst AreShortest (sym (append-nil front)) s
more_digits front (d ∷ ds) h fits s =
    let both = and_true _ _ h in
    let joined : (front ++ d ∷ []) ++ ds ≡ front ++ d ∷ ds = append_assoc front (d ∷ []) ds in
    let fits_all : digits_value ((front ++ d ∷ []) ++ ds) < 10 ^ 64 = subst (λ (us : List ℕ). digits_value us < 10 ^ 64) (sym joined) fits in
    let value : digits_value ((front ++ d ∷ []) ++ ds) ≡ fold step (digits_value (front ++ d ∷ [])) ds = fold-append step 0 (front ++ d ∷ []) ds in
    let fits_next : digits_value (front ++ d ∷ []) < 10 ^ 64 = least (grows (digits_value (front ++ d ∷ [])) ds) value fits_all in
    subst AreShortest joined (more_digits (front ++ d ∷ []) ds both.1 fits_all (next_digit front d both.0 fits_next s))

-- a spelling above 0 does not begin with a zero
no_zero_first : (n : ℕ) → n < 10 ^ 64 → 0 < n → 48 < get_or (decimal n) 0 0
no_zero_first n h = decimal_by_steps_wide (λ m us. 0 < m → 48 < get_or us 0 0) (λ m small some. omega (arith, some)) more n h
  where
    joined : (us : List ℕ) (c : ℕ) → 48 < get_or us 0 0 → 48 < get_or (us ++ c ∷ []) 0 0
    joined [] c low = absurd (let f : ⊥ = omega (arith, low) in f)
    joined (u ∷ us) c low = low

    more : (m : ℕ) (us : List ℕ) → 10 ≤ m → (0 < m / 10 → 48 < get_or us 0 0) → 0 < m → 48 < get_or (us ++ (48 + m % 10) ∷ []) 0 0
    more m us h before _ = joined us (48 + m % 10) (before (omega (arith, h)))

same_bytes : (us vs : List ℕ) → vs ≡ us → bytes_eq us vs ≡ true
same_bytes us vs e = (bytes_eq-Decides us vs).1 (sym e)

other_bytes : (us vs : List ℕ) → (us ≡ vs → ⊥) → bytes_eq us vs ≡ false
other_bytes us vs other = elim (cases_Bool (bytes_eq us vs)) [ inl e ↦ absurd (other ((bytes_eq-Decides us vs).0 e)) | inr e ↦ e ]

zero_spelled : decimal 0 ≡ 48 ∷ []
zero_spelled = decimal_digit 0 (omega arith)

-- digits with a zero before another digit are no spelling
not_spelled : (e : ℕ) (es : List ℕ) (n : ℕ) → n < 10 ^ 64 → 48 ∷ e ∷ es ≡ decimal n → ⊥
not_spelled e es zero h same = let f : ⊥ = cc (zero_spelled, same) in f
not_spelled e es (suc k) h same =
    let low : 48 < get_or (decimal (suc k)) 0 0 = no_zero_first (suc k) h (omega arith) in
    let first : get_or (decimal (suc k)) 0 0 ≡ 48 = ap (λ (us : List ℕ). get_or us 0 0) (sym same) in
    omega (arith, low, first)

-- digits and the spelling of their value
by_digits : (ds : List ℕ) → list_all is_ascii_digit ds ≡ true → 0 < length ds → digits_value ds < 10 ^ 64 → begins_with_zero ds ≡ not (bytes_eq ds (decimal (digits_value ds)))
by_digits [] h some fits = absurd (let f : ⊥ = omega (arith, some) in f)
by_digits (d ∷ []) h some fits = ap not (sym (same_bytes (d ∷ []) _ (one_spelled d (and_true _ _ h).0)))
by_digits (d ∷ e ∷ es) h some fits = by_first (d == 48) refl
  where
    two : nat_lt 1 (length (d ∷ e ∷ es)) ≡ true
    two = lt-ltb 1 (length (d ∷ e ∷ es)) (omega arith)

    tested : (b : Bool) → (d == 48) ≡ b → begins_with_zero (d ∷ e ∷ es) ≡ b
    tested b t = ap (λ (c : Bool). c && d == 48) two ∙ t

    by_first : (b : Bool) → (d == 48) ≡ b → begins_with_zero (d ∷ e ∷ es) ≡ not (bytes_eq (d ∷ e ∷ es) (decimal (digits_value (d ∷ e ∷ es))))
    by_first true t =
        let zero_first : d ∷ e ∷ es ≡ 48 ∷ e ∷ es = ap (λ (c : ℕ). c ∷ e ∷ es) (eqb-true d 48 t) in
        let other : bytes_eq (d ∷ e ∷ es) (decimal (digits_value (d ∷ e ∷ es))) ≡ false
        = other_bytes _ _ (λ same. not_spelled e es _ fits (sym zero_first ∙ same)) in
        tested true t ∙ ap not (sym other)
    by_first false t =
        let both = and_true (is_ascii_digit d) (list_all is_ascii_digit (e ∷ es)) h in
        let s = more_digits (d ∷ []) (e ∷ es) both.1 fits (first_digit d both.0 (λ same. let f : ⊥ = cc (t, ap (λ (c : ℕ). c == 48) same) in f)) in
        tested false t ∙ ap not (sym (same_bytes (d ∷ e ∷ es) _ s.spelled))

pub natural_shortest : (ds : List ℕ) (n : ℕ) → natural ds ≡ Some n → n < 10 ^ 64 → begins_with_zero ds ≡ not (bytes_eq ds (decimal n))
natural_shortest [] n e fits = absurd (let f : ⊥ = cc e in f)
natural_shortest (d ∷ ds) n e fits = by_test (list_all is_ascii_digit (d ∷ ds)) refl e
  where
    by_test : (b : Bool) → list_all is_ascii_digit (d ∷ ds) ≡ b → cond b (Some (digits_value (d ∷ ds))) None ≡ Some n → begins_with_zero (d ∷ ds) ≡ not (bytes_eq (d ∷ ds) (decimal n))
    by_test false t h = absurd (let f : ⊥ = cc h in f)
    by_test true t h =
        let same : digits_value (d ∷ ds) ≡ n = cc h in
        by_digits (d ∷ ds) t (omega arith) (subst (λ (m : ℕ). m < 10 ^ 64) (sym same) fits)
        ∙ ap (λ (m : ℕ). not (bytes_eq (d ∷ ds) (decimal m))) same

-- a word as it is tested
abbrev pub IsTold : Word → Bool → Type 0
IsTold word b = IfSome (if_in_range (number word)) (λ x. b ≡ not (bytes_eq word (signed_decimal x)))

pub fits_wide : (x : ℤ) → is_in_range x ≡ true → unsigned_abs x < 10 ^ 64
fits_wide x h = omega (arith, leb-true (unsigned_abs x) (2 ^ 127 - 1) h)

pub told_digits : (word : Word) → number word ≡ not_negated (natural word) → IsTold word (begins_with_zero word)
told_digits word e = subst (λ (o : Option ℤ). IfSome (if_in_range o) (λ x. begins_with_zero word ≡ not (bytes_eq word (signed_decimal x)))) (sym e) (by (natural word) refl)
  where
    by : (o : Option ℕ) → natural word ≡ o → IfSome (if_in_range (not_negated o)) (λ x. begins_with_zero word ≡ not (bytes_eq word (signed_decimal x)))
    by None _ = tt
    by (Some n) h = in_range (is_in_range (pos n)) refl
      where
        in_range : (b : Bool) → is_in_range (pos n) ≡ b → IfSome (cond b (Some (pos n)) None) (λ x. begins_with_zero word ≡ not (bytes_eq word (signed_decimal x)))
        in_range false _ = tt
        in_range true t = natural_shortest word n h (omega (arith, fits_wide (pos n) t))

pub told_minus : (ds : List ℕ) → IsTold (45 ∷ ds) (begins_with_zero ds)
told_minus ds = by (natural ds) refl
  where
    by : (o : Option ℕ) → natural ds ≡ o → IfSome (if_in_range (negated o)) (λ x. begins_with_zero ds ≡ not (bytes_eq (45 ∷ ds) (signed_decimal x)))
    by None _ = tt
    by (Some zero) _ = tt
    by (Some (suc k)) h = in_range (is_in_range (negsuc k)) refl
      where
        in_range : (b : Bool) → is_in_range (negsuc k) ≡ b → IfSome (cond b (Some (negsuc k)) None) (λ x. begins_with_zero ds ≡ not (bytes_eq (45 ∷ ds) (signed_decimal x)))
        in_range false _ = tt
        in_range true t = natural_shortest ds (suc k) h (omega (arith, fits_wide (negsuc k) t))

-- by the first byte of the word
pub told_first : (word : Word) (d : ℕ) (ds : List ℕ) → word ≡ d ∷ ds → (d ≡ 45 → ⊥) → IsTold word (begins_with_zero word)
told_first word d ds e other = rw e (told_digits (d ∷ ds) (ap (λ (b : Bool). cond b (negated (natural ds)) (not_negated (natural (d ∷ ds)))) (not_minus (cases_Bool (d == 45)))))
  where
    not_minus : ((d == 45) ≡ true) ⊎ ((d == 45) ≡ false) → (d == 45) ≡ false
    not_minus (inl t) = absurd (other (eqb-true d 45 t))
    not_minus (inr t) = t

pub told_behind_minus : (word : Word) (d : ℕ) (ds : List ℕ) → word ≡ d ∷ ds → d ≡ 45 → IsTold word (begins_with_zero ds)
told_behind_minus word d ds e minus = let whole : word ≡ 45 ∷ ds = e ∙ ap (λ (c : ℕ). c ∷ ds) minus in rw whole (told_minus ds)
