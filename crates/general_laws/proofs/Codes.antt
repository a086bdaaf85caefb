-- A clause over n variables has a number below 3^n, and clauses with one number contain the same literals.
use Rattle.std.proofs.Common.{◌≡◌, ◌≢◌, ℕ, zero, suc, ◌<◌, ◌≤◌, ◌+◌, ◌-◌, ◌^◌, Bool, true, false, not, ◌&&◌, ◌||◌, ◌==◌, nat_le, List, [], ◌∷◌, refl, sym, ◌∙◌, subst, ℤ, pos, negsuc, neg_ℤ, inl, inr, length, arith, map}
use Rattle.std.proofs.lemmas.List.{length-map}
use Rattle.std.specs.List.{list_all}
use Rattle.std.proofs.Math.Nat.{pow-zero, pow-suc}
use Rattle.std.proofs.lemmas.Bool.{eqb-true, eq-eqb, both_ways, not-true, leb-true, false_from_ne_true}
use Rattle.std.proofs.lemmas.List.FromFn.{length-range_with_len}
use Rattle.lk_model.specs.Lists.{among, is_empty, up_to}
use Rattle.lk_model.specs.Formulas.Literal.{variable, complement, contains, is_literal, is_within, is_tautology}
use Rattle.lk_model.proofs.Booleans.{and_true, or_true}
use Rattle.lk_model.proofs.ListTests.{passes_each, passes_one}
use Rattle.lk_model.proofs.Founds.{all_literals}
use Rattle.lk_model.proofs.Counting.{Differ, none, more, no_more, among-range}
use Rattle.general_laws.specs.CountLaw.{is_proper, none_contains_earlier}

-- NUMBERS

-- how a clause contains a variable
data Digit : Type 0 where
  absent : Digit
  plain : Digit
  negated : Digit

-- from whether the literal and its complement stand in the clause
abbrev digit_by : Bool → Bool → Digit
digit_by true b = plain
digit_by false true = negated
digit_by false false = absent

-- for one variable
abbrev digit_of : List ℤ → ℕ → Digit
digit_of c v = digit_by (contains c (pos v)) (contains c (neg_ℤ (pos v)))

-- what it adds to the number
abbrev worth : Digit → ℕ → ℕ
worth absent p = 0
worth plain p = p
worth negated p = p + p

-- the number of a clause over the variables 1 to n
pub code : ℕ → List ℤ → ℕ
code zero c = 0
code (suc n) c = code n c + worth (digit_of c (suc n)) (3 ^ n)

-- one more power of three
three_times : (n : ℕ) → 3 ^ suc n ≡ 3 ^ n + 3 ^ n + 3 ^ n
three_times n = omega (arith, pow-suc 3 n)

-- the number is below 3^n
pub code_below : (n : ℕ) (c : List ℤ) → code n c < 3 ^ n
unfolding code
code_below zero c = omega (arith, pow-zero 3)
code_below (suc n) c = at_digit (digit_of c (suc n)) (code n c) (3 ^ n) (3 ^ suc n) (code_below n c) (three_times n)
  where
    at_digit : (x : Digit) (a p q : ℕ) → a < p → q ≡ p + p + p → a + worth x p < q
    at_digit absent a p q h e = omega (arith, h, e)
    at_digit plain a p q h e = omega (arith, h, e)
    at_digit negated a p q h e = omega (arith, h, e)

-- two numbers below p that are equal with a multiple of p more are equal, and so are the multiples
same_parts : (x y : Digit) (a b p : ℕ) → a < p → b < p → a + worth x p ≡ b + worth y p → (a ≡ b) × (x ≡ y)
same_parts absent absent a b p f g e = (omega (arith, e), refl)
same_parts plain plain a b p f g e = (omega (arith, e), refl)
same_parts negated negated a b p f g e = (omega (arith, e), refl)
same_parts absent plain a b p f g e = absurd (omega (arith, f, e))
same_parts absent negated a b p f g e = absurd (omega (arith, f, e))
same_parts plain absent a b p f g e = absurd (omega (arith, g, e))
same_parts plain negated a b p f g e = absurd (omega (arith, f, e))
same_parts negated absent a b p f g e = absurd (omega (arith, g, e))
same_parts negated plain a b p f g e = absurd (omega (arith, g, e))

-- clauses with one number contain each variable in one way
same_digits : (n : ℕ) (c d : List ℤ) → code n c ≡ code n d → (v : ℕ) → 0 < v → v ≤ n → digit_of c v ≡ digit_of d v
unfolding code
same_digits zero c d e v least most = absurd (omega (arith, least, most))
same_digits (suc n) c d e v least most =
    let both = same_parts (digit_of c (suc n)) (digit_of d (suc n)) (code n c) (code n d) (3 ^ n) (code_below n c) (code_below n d) e in
    at_test (v == suc n) refl both.1 (λ most. same_digits n c d both.0 v least most)
  where
    at_test : (b : Bool) → (v == suc n) ≡ b → digit_of c (suc n) ≡ digit_of d (suc n) → (v ≤ n → digit_of c v ≡ digit_of d v) → digit_of c v ≡ digit_of d v
    at_test true s here rest = subst (λ (w : ℕ). digit_of c w ≡ digit_of d w) (sym (eqb-true v (suc n) s)) here
    at_test false s here rest = rest (let n' : v ≢ suc n = λ q. both_ways (v == suc n) s (eq-eqb v (suc n) q) in omega (arith, n', most))

-- a variable that is plain stands in the clause
plain_held : (a b : Bool) → digit_by a b ≡ plain → a ≡ true
plain_held true b e = refl
plain_held false true e = absurd (let f : ⊥ = cc in f)
plain_held false false e = absurd (let f : ⊥ = cc in f)

-- and the complement of one that is negated
negated_held : (a b : Bool) → digit_by a b ≡ negated → b ≡ true
negated_held true b e = absurd (let f : ⊥ = cc in f)
negated_held false true e = refl
negated_held false false e = absurd (let f : ⊥ = cc in f)

-- a clause with no complementary literals is within each clause of its number
pub code_within : (n : ℕ) (c d : List ℤ) → list_all (is_literal n) c ≡ true → is_tautology c ≡ false → code n c ≡ code n d → is_within c d ≡ true
code_within n c d over apart e = all_literals (contains d) c held
  where
    same_at : (l : ℤ) → contains c l ≡ true → digit_of c (variable l) ≡ digit_of d (variable l)
    same_at l m =
        let range = and_true (nat_le 1 (variable l)) (nat_le (variable l) n) (passes_each (is_literal n) c l over m) in
        same_digits n c d e (variable l) (leb-true 1 (variable l) range.0) (leb-true (variable l) n range.1)

    held : (l : ℤ) → contains c l ≡ true → contains d l ≡ true
    held (pos v) m =
        let here : digit_of c v ≡ plain = rw m refl in
        plain_held (contains d (pos v)) (contains d (neg_ℤ (pos v))) (sym (same_at (pos v) m) ∙ here)
    held (negsuc k) m =
        let other : contains c (pos (suc k)) ≡ false = false_from_ne_true (contains c (pos (suc k)))
        (λ q. both_ways (is_tautology c) apart (passes_one (λ l. contains c (complement l)) c (negsuc k) m q)) in
        let here : digit_of c (suc k) ≡ negated = rw (other, m) refl in
        negated_held (contains d (pos (suc k))) (contains d (negsuc k)) (sym (same_at (negsuc k) m) ∙ here)

-- the empty clause has the number 0
code_empty : (n : ℕ) → code n [] ≡ 0
unfolding code
code_empty zero = refl
code_empty (suc n) = let e = code_empty n in omega (arith, e)

-- COUNTING THEM

-- what a proper clause is, taken apart
record IsProper (n : ℕ) (c : List ℤ) : Type 0 where
  over : list_all (is_literal n) c ≡ true
  filled : is_empty c ≡ false
  apart : is_tautology c ≡ false

-- a clause that passes the test is proper
proper : (n : ℕ) (c : List ℤ) → is_proper n c ≡ true → IsProper n c
proper n c e =
    let a = and_true (list_all (is_literal n) c && not (is_empty c)) (not (is_tautology c)) e in
    let b = and_true (list_all (is_literal n) c) (not (is_empty c)) a.0 in
    record { over = b.0; filled = not-true (is_empty c) b.1; apart = not-true (is_tautology c) a.1 }

-- a proper clause has a number between 0 and 3^n
code_inside : (n : ℕ) (c : List ℤ) → is_proper n c ≡ true → among (up_to (3 ^ n - 1)) (code n c) ≡ true
code_inside n c e =
    let below = code_below n c in let above = code_above (code n c) refl in
    among-range 1 (3 ^ n - 1) (code n c) above (omega (arith, below))
  where
    filled_not_within : (c : List ℤ) → is_empty c ≡ false → is_within c [] ≡ true → ⊥
    filled_not_within [] f w = let g : ⊥ = cc in g
    filled_not_within (l ∷ c) f w = let g : ⊥ = cc in g

    code_above : (k : ℕ) → code n c ≡ k → 1 ≤ k
    code_above zero z = let p = proper n c e in absurd (filled_not_within c p.filled (code_within n c [] p.over p.apart (z ∙ sym (code_empty n))))
    code_above (suc k) z = omega arith

-- a clause that is in none of these has another number than each
code_new : (n : ℕ) (c : List ℤ) (cs : List (List ℤ)) → IsProper n c → list_all (λ d. not (is_within c d)) cs ≡ true → among (map (code n) cs) (code n c) ≡ false
code_new n c [] p e = refl
code_new n c (d ∷ cs) p e =
    let both = and_true (not (is_within c d)) (list_all (λ d. not (is_within c d)) cs) e in
    false_from_ne_true (code n d == code n c || among (map (code n) cs) (code n c)) (λ m. elim (or_true (code n d == code n c) (among (map (code n) cs) (code n c)) m) [
      | inl same ↦ both_ways (is_within c d) (not-true (is_within c d) both.0) (code_within n c d p.over p.apart (sym (eqb-true (code n d) (code n c) same)))
      | inr later ↦ both_ways (among (map (code n) cs) (code n c)) (code_new n c cs p both.1) later
    ])

-- clauses of which none contains an earlier one have different numbers
codes_differ : (n : ℕ) (cs : List (List ℤ)) → list_all (is_proper n) cs ≡ true → none_contains_earlier cs ≡ true → Differ (map (code n) cs)
codes_differ n [] p e = none
codes_differ n (c ∷ cs) p e =
    let ps = and_true (is_proper n c) (list_all (is_proper n) cs) p in
    let both = and_true (list_all (λ d. not (is_within c d)) cs) (none_contains_earlier cs) e in
    more (code n c) (map (code n) cs) (code_new n c cs (proper n c ps.0) both.0) (codes_differ n cs ps.1 both.1)

-- and all of them are between 0 and 3^n
codes_inside : (n : ℕ) (cs : List (List ℤ)) → list_all (is_proper n) cs ≡ true → (k : ℕ) → among (map (code n) cs) k ≡ true → among (up_to (3 ^ n - 1)) k ≡ true
codes_inside n [] p k m = absurd (let f : ⊥ = cc in f)
codes_inside n (c ∷ cs) p k m =
    let ps = and_true (is_proper n c) (list_all (is_proper n) cs) p in
    elim (or_true (code n c == k) (among (map (code n) cs) k) m) [
      | inl here ↦ subst (λ (j : ℕ). among (up_to (3 ^ n - 1)) j ≡ true) (eqb-true (code n c) k here) (code_inside n c ps.0)
      | inr later ↦ codes_inside n cs ps.1 k later
    ]

-- so there are fewer than 3^n of them
pub few_clauses : (n : ℕ) (cs : List (List ℤ)) → list_all (is_proper n) cs ≡ true → none_contains_earlier cs ≡ true → length cs < 3 ^ n
few_clauses n cs p e =
    let counted = no_more (λ k. k) (map (code n) cs) (up_to (3 ^ n - 1)) (codes_differ n cs p e) (record { into = codes_inside n cs p; one = λ x z m k same. same }) in
    let left : length (map (code n) cs) ≡ length cs = length-map cs (code n) in
    let right : length (up_to (3 ^ n - 1)) ≡ 3 ^ n - 1 = length-range_with_len 1 (3 ^ n - 1) in
    let positive = code_below n [] in
    omega (arith, counted, left, right, positive)
