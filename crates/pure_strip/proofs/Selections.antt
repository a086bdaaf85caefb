-- Filters, counts and searches over lists, and over the numbers of a range.
use Rattle.std.proofs.Common.{◌≡◌, ◌≢◌, ℕ, zero, suc, ◌+◌, ◌<◌, ◌≤◌, Bool, true, false, not, cond, ◌&&◌, ◌||◌, List, [], ◌∷◌, length, refl, sym, ◌∙◌, ap, arith, inl, inr}
use Rattle.std.specs.Prelude.{filter, count_by, nat_lt, ◌==◌}
use Rattle.std.specs.List.{list_any, range_with_len}
use Rattle.std.proofs.lemmas.List.Sums.{sum_by-cons}
use Rattle.std.proofs.lemmas.Bool.{lt-ltb, eq-eqb, eqb-true, cases_Bool}

-- 1 where the test passes
abbrev pub weight : Bool → ℕ
weight b = cond b 1 0

-- the count over a list with one more at its front
pub count_by-cons : {X : Type 0} (p : X → Bool) (x : X) (xs : List X) → count_by p (x ∷ xs) ≡ weight (p x) + count_by p xs
count_by-cons p x xs = sum_by-cons (λ y. weight (p y)) x xs

-- a count of what passes two tests is one over what passes the first
pub count_by-filter : {X : Type 0} (s t : X → Bool) (xs : List X) → count_by (λ x. s x && t x) xs ≡ count_by t (filter s xs)
count_by-filter s t [] = refl
count_by-filter s t (x ∷ xs) =
    let rest = count_by-filter s t xs in
    let whole = count_by-cons (λ y. s y && t y) x xs in
    elim (cases_Bool (s x)) [
      | inl e ↦
          let here : weight (s x && t x) ≡ weight (t x) = ap (λ b. weight (b && t x)) e in
          let kept : count_by t (cond (s x) (x ∷ filter s xs) (filter s xs)) ≡ weight (t x) + count_by t (filter s xs) =
          ap (λ b. count_by t (cond b (x ∷ filter s xs) (filter s xs))) e ∙ count_by-cons t x (filter s xs) in
          whole ∙ (let sums : weight (s x && t x) + count_by (λ y. s y && t y) xs ≡ weight (t x) + count_by t (filter s xs) = omega (arith, here, rest) in sums) ∙ sym kept
      | inr e ↦
          let here : weight (s x && t x) ≡ 0 = ap (λ b. weight (b && t x)) e in
          let kept : count_by t (cond (s x) (x ∷ filter s xs) (filter s xs)) ≡ count_by t (filter s xs) =
          ap (λ b. count_by t (cond b (x ∷ filter s xs) (filter s xs))) e in
          whole ∙ (let sums : weight (s x && t x) + count_by (λ y. s y && t y) xs ≡ count_by t (filter s xs) = omega (arith, here, rest) in sums) ∙ sym kept
    ]

-- some element passes exactly where the count is above 0
pub any_by_count : {X : Type 0} (t : X → Bool) (xs : List X) → nat_lt 0 (count_by t xs) ≡ list_any t xs
any_by_count t [] = refl
any_by_count t (x ∷ xs) =
    let rest = any_by_count t xs in
    let whole = count_by-cons t x xs in
    elim (cases_Bool (t x)) [
      | inl e ↦
          let here : weight (t x) ≡ 1 = ap (λ b. weight b) e in
          lt-ltb 0 (count_by t (x ∷ xs)) (omega (arith, whole, here)) ∙ sym (ap (λ b. b || list_any t xs) e)
      | inr e ↦
          let here : weight (t x) ≡ 0 = ap (λ b. weight b) e in
          let same : count_by t (x ∷ xs) ≡ count_by t xs = omega (arith, whole, here) in
          ap (nat_lt 0) same ∙ rest ∙ sym (ap (λ b. b || list_any t xs) e)
    ]

pub none_by_count : {X : Type 0} (t : X → Bool) (xs : List X) → (count_by t xs == 0) ≡ not (list_any t xs)
none_by_count t xs = by_number (count_by t xs) ∙ ap not (any_by_count t xs)
  where
    by_number : (n : ℕ) → (n == 0) ≡ not (nat_lt 0 n)
    by_number zero = refl
    by_number (suc n) = elim (cases_Bool (suc n == 0)) [
      | inl e ↦ absurd (let f : suc n ≡ 0 = eqb-true (suc n) 0 e in omega (arith, f))
      | inr e ↦ e ∙ sym (ap not (lt-ltb 0 (suc n) (omega arith)))
    ]

-- OVER A RANGE

-- tests that agree on a range
abbrev pub Agree : ℕ → ℕ → (ℕ → Bool) → (ℕ → Bool) → Type 0
Agree a n s t = (k : ℕ) → a ≤ k → k < a + n → s k ≡ t k

Agree-tail : (a n : ℕ) (s t : ℕ → Bool) → Agree a (suc n) s t → Agree (a + 1) n s t
Agree-tail a n s t h k low high = h k (omega (arith, low)) (omega (arith, high))

pub filter-agree : (a n : ℕ) (s t : ℕ → Bool) → Agree a n s t → filter s (range_with_len a n) ≡ filter t (range_with_len a n)
filter-agree a zero s t h = refl
filter-agree a (suc n) s t h =
    let here : s a ≡ t a = h a (omega arith) (omega arith) in
    let rest = filter-agree (a + 1) n s t (Agree-tail a n s t h) in
    ap (λ b. cond b (a ∷ filter s (range_with_len (a + 1) n)) (filter s (range_with_len (a + 1) n))) here
    ∙ ap (λ ks. cond (t a) (a ∷ ks) ks) rest

pub count_by-agree : (a n : ℕ) (s t : ℕ → Bool) → Agree a n s t → count_by s (range_with_len a n) ≡ count_by t (range_with_len a n)
count_by-agree a zero s t h = refl
count_by-agree a (suc n) s t h =
    let here : weight (s a) ≡ weight (t a) = ap (λ b. weight b) (h a (omega arith) (omega arith)) in
    let rest = count_by-agree (a + 1) n s t (Agree-tail a n s t h) in
    omega (arith, count_by-cons s a (range_with_len (a + 1) n), count_by-cons t a (range_with_len (a + 1) n), here, rest)

-- at one number of the range the second test fails, and elsewhere they agree
pub count_by-less : (a n p : ℕ) (s t : ℕ → Bool) → a ≤ p → p < a + n → t p ≡ false → ((k : ℕ) → a ≤ k → k ≢ p → s k ≡ t k)
    → count_by s (range_with_len a n) ≡ count_by t (range_with_len a n) + weight (s p)
count_by-less a zero p s t low high fails h = absurd (omega (arith, low, high))
count_by-less a (suc n) p s t low high fails h =
    let left = count_by-cons s a (range_with_len (a + 1) n) in
    let right = count_by-cons t a (range_with_len (a + 1) n) in
    elim (cases_Bool (a == p)) [
      | inl e ↦
          let same : a ≡ p = eqb-true a p e in
          let rest = count_by-agree (a + 1) n s t (λ k l u. h k (omega (arith, l)) (λ q. omega (arith, l, q, same))) in
          let here : weight (t a) ≡ 0 = ap (λ k. weight (t k)) same ∙ ap weight fails in
          let there : weight (s a) ≡ weight (s p) = ap (λ k. weight (s k)) same in
          omega (arith, left, right, rest, here, there)
      | inr e ↦
          let other : a ≢ p = λ q. cc (e, eq-eqb a p q) in
          let above : a + 1 ≤ p = omega (arith, low, other) in
          let rest = count_by-less (a + 1) n p s t above (omega (arith, high)) fails (λ k l q. h k (omega (arith, l)) q) in
          let here : weight (s a) ≡ weight (t a) = ap (λ b. weight b) (h a (omega arith) other) in
          omega (arith, left, right, rest, here)
    ]

-- a stronger test leaves no more, and fewer where it fails at an element at which the other passes
pub length-filter-le : {X : Type 0} (s t : X → Bool) (xs : List X) → ((x : X) → t x ≡ true → s x ≡ true) → length (filter t xs) ≤ length (filter s xs)
length-filter-le s t [] h = omega arith
length-filter-le s t (x ∷ xs) h =
    let less = length-filter-le s t xs h in
    elim (cases_Bool (t x)) [
      | inl y ↦ let z : s x ≡ true = h x y in rw (y, z) (omega (arith, less))
      | inr y ↦ elim (cases_Bool (s x)) [ inl z ↦ rw (y, z) (omega (arith, less)) | inr z ↦ rw (y, z) less ]
    ]

pub length-filter-lt : {X : Type 0} (s t : X → Bool) (xs : List X) → ((x : X) → t x ≡ true → s x ≡ true)
    → list_any (λ x. s x && not (t x)) xs ≡ true → length (filter t xs) < length (filter s xs)
length-filter-lt s t [] h e = absurd (let f : ⊥ = cc in f)
length-filter-lt s t (x ∷ xs) h e =
    let some = length-filter-le s t xs h in
    elim (cases_Bool (t x)) [
      | inl y ↦
          let z : s x ≡ true = h x y in
          let more : list_any (λ k. s k && not (t k)) xs ≡ true = sym (ap (λ b. (s x && not b) || list_any (λ k. s k && not (t k)) xs) y ∙ ap (λ b. (b && false) || list_any (λ k. s k && not (t k)) xs) z) ∙ e in
          let less = length-filter-lt s t xs h more in
          rw (y, z) (omega (arith, less))
      | inr y ↦ elim (cases_Bool (s x)) [
        | inl z ↦ rw (y, z) (omega (arith, some))
        | inr z ↦
            let more : list_any (λ k. s k && not (t k)) xs ≡ true = sym (ap (λ b. (b && not (t x)) || list_any (λ k. s k && not (t k)) xs) z) ∙ e in
            let less = length-filter-lt s t xs h more in
            rw (y, z) less
      ]
    ]
