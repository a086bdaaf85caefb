-- Decimal spellings: they are words, and the numbers that they write.
use Rattle.std.proofs.Common.{◌≡◌, ℕ, zero, suc, ◌+◌, ◌/◌, ◌%◌, ◌<◌, ◌^◌, Bool, true, false, cond, not, ◌==◌, List, [], ◌∷◌, refl, ap, subst, arith, inl, inr, ℤ, pos, negsuc, Some, nat_lt}
use Rattle.std.specs.Prelude.{slice_index, unsigned_abs}
use Rattle.std.specs.List.{list_all}
use Rattle.std.specs.Fmt.{decimal, signed_decimal, digits, digits_onto, digit_glyph}
use Rattle.std.specs.Char.{is_ascii_digit}
use Rattle.std.proofs.lemmas.Bool.{cases_Bool, eqb-true, lt-ltb, and_from}
use Rattle.std.proofs.lemmas.Fmt.{decimal_by_steps}
use Rattle.lk_model.proofs.Booleans.{and_true}
use Rattle.lk_model.proofs.Spellings.{IsSpelling, one_digit, more_digits, natural_by, number_by}
use Rattle.lk_model.specs.Lists.{is_empty}
use Rattle.lk_model.specs.Texts.NumberWords.{natural, number, negated}
use Rattle.text_laws.proofs.Words.{is_word}

-- EACH IS A WORD

-- a digit is no blank
glyph_solid : (d : ℕ) → nat_lt 32 (digit_glyph false d) ≡ true
glyph_solid d = by (nat_lt d 10)
  where
    by : (b : Bool) → nat_lt 32 (cond b (48 + d) (87 + d)) ≡ true
    by true = lt-ltb 32 (48 + d) (omega arith)
    by false = lt-ltb 32 (87 + d) (omega arith)

either_word : (b : Bool) (us vs : List ℕ) → is_word us ≡ true → is_word vs ≡ true → is_word (cond b us vs) ≡ true
either_word true us vs p q = p
either_word false us vs p q = q

onto_word : (k n x : ℕ) (xs : List ℕ) → is_word (x ∷ xs) ≡ true → is_word (digits_onto k 10 false n (x ∷ xs)) ≡ true
onto_word zero n x xs h = h
onto_word (suc k) n x xs h =
    let glyph = digit_glyph false (n % 10) in
    let more : is_word (glyph ∷ x ∷ xs) ≡ true = and_from (nat_lt 32 glyph) (is_word (x ∷ xs)) (glyph_solid (n % 10)) h in
    either_word (n / 10 == 0) (glyph ∷ x ∷ xs) (digits_onto k 10 false (n / 10) (glyph ∷ x ∷ xs)) more (onto_word k (n / 10) glyph (x ∷ xs) more)

pub decimal_word : (n : ℕ) → is_word (decimal n) ≡ true
unfolding digits
decimal_word n =
    let glyph = digit_glyph false (n % 10) in
    let one : is_word (glyph ∷ []) ≡ true = and_from (nat_lt 32 glyph) true (glyph_solid (n % 10)) refl in
    either_word (n / 10 == 0) (glyph ∷ []) (digits_onto 63 10 false (n / 10) (glyph ∷ [])) one (onto_word 63 (n / 10) glyph [] one)

pub signed_word : (x : ℤ) → is_word (signed_decimal x) ≡ true
signed_word (pos n) = decimal_word n
signed_word (negsuc k) = (and_true (not (is_empty (decimal (suc k)))) _ (decimal_word (suc k))).1

-- WHAT THEY WRITE

spelling : (n : ℕ) → n < 2 ^ 64 → IsSpelling n (decimal n)
spelling n h = decimal_by_steps IsSpelling one_digit more_digits n h

pub natural_decimal : (n : ℕ) → n < 2 ^ 64 → natural (decimal n) ≡ Some n
natural_decimal n h = natural_by n (decimal n) (spelling n h)

-- a byte that is no digit begins no digits
pub first_apart : (c : ℕ) (ds : List ℕ) → is_ascii_digit c ≡ false → list_all is_ascii_digit ds ≡ true → is_empty ds ≡ false → (slice_index ds 0 == c) ≡ false
first_apart c [] low h some = absurd (let f : ⊥ = cc in f)
first_apart c (d ∷ ds) low h some = elim (cases_Bool (d == c)) [
  | inl e ↦ absurd (let p : is_ascii_digit c ≡ true = subst (λ (b : ℕ). is_ascii_digit b ≡ true) (eqb-true d c e) (and_true _ _ h).0 in let f : ⊥ = cc in f)
  | inr e ↦ e
]

pub number_spelled : (x : ℤ) → unsigned_abs x < 2 ^ 63 → number (signed_decimal x) ≡ Some x
number_spelled (pos n) h = number_by n (decimal n) (spelling n (omega (arith, h)))
number_spelled (negsuc k) h = ap negated (natural_by (suc k) (decimal (suc k)) (spelling (suc k) (omega (arith, h))))

-- the spelling of a number begins with a digit or with a minus sign
pub signed_first : (x : ℤ) (c : ℕ) → unsigned_abs x < 2 ^ 63 → is_ascii_digit c ≡ false → (45 == c) ≡ false → (slice_index (signed_decimal x) 0 == c) ≡ false
signed_first (pos n) c h low e = let s = spelling n (omega (arith, h)) in first_apart c (decimal n) low s.digits s.some
signed_first (negsuc k) c h low e = e
