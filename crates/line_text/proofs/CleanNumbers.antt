-- Numbers and lists of them are clean words, and lines of such words are clean.
use Rattle.std.proofs.Common.{◌≡◌, ℕ, zero, suc, ◌/◌, ◌%◌, ◌+◌, ◌≤◌, ◌∙◌, Bool, true, false, not, cond, ◌==◌, nat_lt, List, [], ◌∷◌, ◌++◌, map, refl, ap, arith, ℤ, pos, negsuc, length}
use Rattle.std.specs.Prelude.{codes}
use Rattle.std.specs.List.{list_all, flat_map}
use Rattle.std.specs.Fmt.{decimal, signed_decimal, digits, digits_onto, digit_glyph}
use Rattle.std.proofs.lemmas.Bool.{ne_eqb, and_from}
use Rattle.std.proofs.lemmas.List.Folds.{list_all-append}
use Rattle.lk_model.specs.Texts.Lines.{Word}
use Rattle.lk_model.specs.Texts.PlainText.{ended, number_words, literal_words, formula_lines}
use Rattle.lk_text.specs.Cutting.{is_one_line}
use Rattle.line_text.specs.Fields.{has_no_space}
use Rattle.line_text.proofs.CleanWords.{is_clean, is_clean_line, are_clean}
use Rattle.lk_model.specs.Formulas.Formula.{Cnf}

-- NUMBERS

apart : (b c : ℕ) → 48 ≤ b → c ≤ 45 → not (b == c) ≡ true
apart b c h low = ap not (ne_eqb b c (λ e. omega (arith, e, h, low)))

glyph_high : (d : ℕ) → 48 ≤ digit_glyph false d
glyph_high d = by_test (nat_lt d 10)
  where
    by_test : (t : Bool) → 48 ≤ cond t (48 + d) (87 + d)
    by_test true = omega arith
    by_test false = omega arith

glyphs_apart : (c : ℕ) → c ≤ 45 → (k n : ℕ) (acc : List ℕ) → list_all (λ b. not (b == c)) acc ≡ true → list_all (λ b. not (b == c)) (digits_onto k 10 false n acc) ≡ true
glyphs_apart c low zero n acc h = h
glyphs_apart c low (suc k) n acc h =
    let more : list_all (λ b. not (b == c)) (digit_glyph false (n % 10) ∷ acc) ≡ true = and_from _ _ (apart (digit_glyph false (n % 10)) c (glyph_high (n % 10)) low) h in
    by_test (n / 10 == 0) _ _ more (glyphs_apart c low k (n / 10) (digit_glyph false (n % 10) ∷ acc) more)
  where
    by_test : (t : Bool) (xs ys : List ℕ) → list_all (λ b. not (b == c)) xs ≡ true → list_all (λ b. not (b == c)) ys ≡ true → list_all (λ b. not (b == c)) (cond t xs ys) ≡ true
    by_test true xs ys p q = p
    by_test false xs ys p q = q

pub clean_number : (n : ℕ) → is_clean (decimal n) ≡ true
unfolding digits
clean_number n = and_from (has_no_space (decimal n)) (is_one_line (decimal n)) (glyphs_apart 32 (omega arith) 64 n [] refl) (glyphs_apart 10 (omega arith) 64 n [] refl)

pub clean_signed : (x : ℤ) → is_clean (signed_decimal x) ≡ true
clean_signed (pos n) = clean_number n
clean_signed (negsuc k) = clean_number (suc k)

-- WORDS

-- one clean word more
pub clean_cons : (word : Word) (words : List Word) → is_clean word ≡ true → list_all is_clean words ≡ true → list_all is_clean (word ∷ words) ≡ true
clean_cons word words h g = and_from (is_clean word) (list_all is_clean words) h g

pub clean_append : (us vs : List Word) → list_all is_clean us ≡ true → list_all is_clean vs ≡ true → list_all is_clean (us ++ vs) ≡ true
clean_append us vs h g = list_all-append is_clean us vs ∙ and_from (list_all is_clean us) (list_all is_clean vs) h g

pub clean_ended : (words : List Word) → list_all is_clean words ≡ true → list_all is_clean (ended words) ≡ true
clean_ended words h = clean_append words (codes "0" ∷ []) h refl

-- words that are closed by 0 are a line
pub clean_closed : (words : List Word) → list_all is_clean words ≡ true → is_clean_line (ended words) ≡ true
clean_closed [] h = refl
clean_closed (word ∷ words) h = clean_ended (word ∷ words) h

pub clean_numbers : (ns : List ℕ) → list_all is_clean (number_words ns) ≡ true
clean_numbers [] = refl
clean_numbers (n ∷ ns) = clean_cons (decimal n) (number_words ns) (clean_number n) (clean_numbers ns)

pub clean_literals : (ls : List ℤ) → list_all is_clean (map signed_decimal ls) ≡ true
clean_literals [] = refl
clean_literals (l ∷ ls) = clean_cons (signed_decimal l) (map signed_decimal ls) (clean_signed l) (clean_literals ls)

pub clean_each : {X : Type 0} (spell : X → List Word) → ((x : X) → list_all is_clean (spell x) ≡ true) → (xs : List X) → list_all is_clean (flat_map spell xs) ≡ true
clean_each spell h [] = refl
clean_each spell h (x ∷ xs) = clean_append (spell x) (flat_map spell xs) (h x) (clean_each spell h xs)

pub two_words : (a b : Word) → is_clean a ≡ true → is_clean b ≡ true → list_all is_clean (a ∷ b ∷ []) ≡ true
two_words a b h g = clean_cons a (b ∷ []) h (clean_cons b [] g refl)

-- LINES

pub lines_append : (ls ms : List (List Word)) → are_clean ls ≡ true → are_clean ms ≡ true → are_clean (ls ++ ms) ≡ true
lines_append ls ms h g = list_all-append is_clean_line ls ms ∙ and_from (are_clean ls) (are_clean ms) h g

-- one clean line more
pub lines_cons : (words : List Word) (lines : List (List Word)) → is_clean_line words ≡ true → are_clean lines ≡ true → are_clean (words ∷ lines) ≡ true
lines_cons words lines h g = and_from (is_clean_line words) (are_clean lines) h g

pub lines_map : {X : Type 0} (spell : X → List Word) → ((x : X) → is_clean_line (spell x) ≡ true) → (xs : List X) → are_clean (map spell xs) ≡ true
lines_map spell h [] = refl
lines_map spell h (x ∷ xs) = lines_cons (spell x) (map spell xs) (h x) (lines_map spell h xs)

-- and so have those of a formula
pub clean_formula : (F : Cnf) → are_clean (formula_lines F) ≡ true
clean_formula F = lines_cons (codes "p" ∷ codes "cnf" ∷ number_words (F.vars ∷ length F.clauses ∷ [])) (map literal_words F.clauses) (clean_numbers (F.vars ∷ length F.clauses ∷ [])) (lines_map literal_words (λ c. clean_closed (map signed_decimal c) (clean_literals c)) F.clauses)
