-- Counting: numbers that are taken one to one into a list are no more than those of the list.
use Rattle.std.proofs.Common.{◌≡◌, ◌≢◌, ℕ, zero, suc, ◌<◌, ◌≤◌, ◌+◌, Bool, true, false, cond, not, ◌&&◌, ◌||◌, ◌==◌, nat_lt, nat_le, List, [], ◌∷◌, ◌++◌, length, get_or, refl, sym, ◌∙◌, ap, subst, arith, ◌⊎◌, inl, inr, filter}
use Rattle.std.specs.List.{range_with_len}
use Rattle.std.proofs.lemmas.Bool.{both_ways, eqb-true, eq-eqb, false_from_ne_true}
use Rattle.std.proofs.lemmas.Map.Views.{any-filter_same}
use Rattle.lk_model.specs.Lists.{among, rises_within}
use Rattle.lk_model.proofs.Booleans.{and_true, or_true}
use Rattle.lk_model.proofs.Rising.{bounded}
use Rattle.lk_model.proofs.Founds.{in_range}
use Rattle.lk_model.proofs.Lists.{among_at, among_here, among_later, filter_length}

-- no number stands twice
pub data Differ : List ℕ → Type 0 where
  none : Differ []
  more : (x : ℕ) (xs : List ℕ) → among xs x ≡ false → Differ xs → Differ (x ∷ xs)

-- so each has one place
pub same_place : (xs : List ℕ) (i j : ℕ) → Differ xs → i < length xs → j < length xs → get_or xs i 0 ≡ get_or xs j 0 → i ≡ j
same_place [] i j d h k e = absurd (omega (arith, h))
same_place (x ∷ xs) zero zero d h k e = refl
same_place (x ∷ xs) zero (suc j) (more _ _ apart d) h k e = absurd (both_ways (among xs x) apart (subst (λ y. among xs y ≡ true) (sym e) (among_at xs j (omega (arith, k)))))
same_place (x ∷ xs) (suc i) zero (more _ _ apart d) h k e = absurd (both_ways (among xs x) apart (subst (λ y. among xs y ≡ true) e (among_at xs i (omega (arith, h)))))
same_place (x ∷ xs) (suc i) (suc j) (more _ _ apart d) h k e = ap suc (same_place xs i j d (omega (arith, h)) (omega (arith, k)) e)

pub among-filter : (p : ℕ → Bool) (xs : List ℕ) (x : ℕ) → among (filter p xs) x ≡ (p x && among xs x)
among-filter p xs x = any-filter_same (λ k. k == x) p (p x) (λ k e. ap p (eqb-true k x e)) xs

pub in_filter : (p : ℕ → Bool) (xs : List ℕ) (x : ℕ) → p x ≡ true → among xs x ≡ true → among (filter p xs) x ≡ true
in_filter p xs x e f = rw (among-filter p xs x, e, f) refl

pub from_filter : (p : ℕ → Bool) (xs : List ℕ) (x : ℕ) → among (filter p xs) x ≡ true → (p x ≡ true) × (among xs x ≡ true)
from_filter p xs x e = and_true (p x) (among xs x) (sym (among-filter p xs x) ∙ e)

pub Differ-filter : (p : ℕ → Bool) (xs : List ℕ) → Differ xs → Differ (filter p xs)
Differ-filter p [] d = none
Differ-filter p (x ∷ xs) (more _ _ a d) = at_test (p x) (Differ-filter p xs d)
    (false_from_ne_true (among (filter p xs) x) (λ e. let f : true ≡ false = sym ((from_filter p xs x e).1) ∙ a in let g : ⊥ = cc in g))
  where
    at_test : (b : Bool) → Differ (filter p xs) → among (filter p xs) x ≡ false → Differ (cond b (x ∷ filter p xs) (filter p xs))
    at_test true d a = more x (filter p xs) a d
    at_test false d a = d

-- one number taken out
without : ℕ → List ℕ → List ℕ
without y ys = filter (λ k. not (k == y)) ys

length-without : (y : ℕ) (ys : List ℕ) → among ys y ≡ true → length (without y ys) + 1 ≤ length ys
unfolding without
length-without y [] e = absurd (let f : ⊥ = cc in f)
length-without y (x ∷ ys) e = at_test (x == y) refl e (length-without y ys) (filter_length (λ k. not (k == y)) ys)
  where
    at_test : (b : Bool) → (x == y) ≡ b → (b || among ys y) ≡ true → (among ys y ≡ true → length (without y ys) + 1 ≤ length ys)
        → length (without y ys) ≤ length ys → length (cond (not b) (x ∷ without y ys) (without y ys)) + 1 ≤ suc (length ys)
    at_test true s e rest all = omega (arith, all)
    at_test false s e rest all = let r = rest e in omega (arith, r)

in_without : (y z : ℕ) (ys : List ℕ) → z ≢ y → among ys z ≡ true → among (without y ys) z ≡ true
unfolding without
in_without y z ys n e = in_filter (λ k. not (k == y)) ys z (ap not (false_from_ne_true (z == y) (λ s. n (eqb-true z y s)))) e

-- f takes the numbers of xs one to one to numbers of ys
pub record TakesInto (f : ℕ → ℕ) (xs ys : List ℕ) : Type 0 where
  pub into : (x : ℕ) → among xs x ≡ true → among ys (f x) ≡ true
  pub one : (x z : ℕ) → among xs x ≡ true → among xs z ≡ true → f x ≡ f z → x ≡ z

pub no_more : (f : ℕ → ℕ) (xs ys : List ℕ) → Differ xs → TakesInto f xs ys → length xs ≤ length ys
no_more f [] ys d t = omega arith
no_more f (x ∷ xs) ys (more _ _ a d) t =
    let rest : TakesInto f xs (without (f x) ys) = record {
      into = λ z e. in_without (f x) (f z) ys
          (λ s. let same = t.one z x (among_later x z xs e) (among_here x xs) s in
          let g : true ≡ false = sym (subst (λ k. among xs k ≡ true) same e) ∙ a in let h : ⊥ = cc in h)
          (t.into z (among_later x z xs e));
      one = λ z w e g s. t.one z w (among_later x z xs e) (among_later x w xs g) s;
    } in
    let shorter = no_more f xs (without (f x) ys) d rest in
    let taken = length-without (f x) ys (t.into x (among_here x xs)) in
    omega (arith, shorter, taken)

-- where a number of ys is left out there are fewer
pub fewer : (f : ℕ → ℕ) (xs ys : List ℕ) (y : ℕ) → Differ xs → TakesInto f xs ys → among ys y ≡ true
    → ((x : ℕ) → among xs x ≡ true → f x ≢ y) → length xs + 1 ≤ length ys
fewer f xs ys y d t e n =
    let rest : TakesInto f xs (without y ys) = record {
      into = λ x g. in_without y (f x) ys (n x g) (t.into x g);
      one = t.one;
    } in
    let shorter = no_more f xs (without y ys) d rest in
    let taken = length-without y ys e in
    omega (arith, shorter, taken)

-- a number of the list that f takes to y, or none
found : (f : ℕ → ℕ) (xs : List ℕ) (y : ℕ) → ((x : ℕ) × (among xs x ≡ true) × (f x ≡ y)) ⊎ ((x : ℕ) → among xs x ≡ true → f x ≢ y)
found f [] y = inr (λ x e. absurd (let g : ⊥ = cc in g))
found f (x ∷ xs) y = at_test (f x == y) refl (found f xs y)
  where
    at_test : (b : Bool) → (f x == y) ≡ b → ((z : ℕ) × (among xs z ≡ true) × (f z ≡ y)) ⊎ ((z : ℕ) → among xs z ≡ true → f z ≢ y)
        → ((z : ℕ) × (among (x ∷ xs) z ≡ true) × (f z ≡ y)) ⊎ ((z : ℕ) → among (x ∷ xs) z ≡ true → f z ≢ y)
    at_test true s rest = inl (x, among_here x xs, eqb-true (f x) y s)
    at_test false s (inl w) = inl (w.0, among_later x w.0 xs w.1, w.2)
    at_test false s (inr n) = inr (λ z e. elim (or_true (x == z) (among xs z) e) [
      | inl same ↦ (λ q. let back = subst (λ k. f k ≡ y) (sym (eqb-true x z same)) q in
          let g : true ≡ false = sym (eq-eqb (f x) y back) ∙ s in let h : ⊥ = cc in h)
      | inr later ↦ n z later
    ])

-- lists that are taken into each other have the same length, so each number of the one is hit
pub hit : (f g : ℕ → ℕ) (xs ys : List ℕ) (y : ℕ) → Differ xs → Differ ys → TakesInto f xs ys → TakesInto g ys xs → among ys y ≡ true
    → (x : ℕ) × (among xs x ≡ true) × (f x ≡ y)
hit f g xs ys y d e t u m =
    elim (found f xs y) [
      | inl w ↦ w
      | inr n ↦ (let a = fewer f xs ys y d t m n in let b = no_more g ys xs e u in absurd (omega (arith, a, b)))
    ]

-- f and g take the lists into each other, and h takes xs to ys; where x is hit by h z, x has a lesser rank than z. Then
-- there is nothing in xs.
pub descends : (f g h r : ℕ → ℕ) (xs ys : List ℕ) → Differ xs → Differ ys → TakesInto f xs ys → TakesInto g ys xs
    → ((x : ℕ) → among xs x ≡ true → among ys (h x) ≡ true)
    → ((x z : ℕ) → among xs x ≡ true → among xs z ≡ true → f z ≡ h x → r z < r x)
    → (k x : ℕ) → among xs x ≡ true → r x < k → ⊥
descends f g h r xs ys d e t u into lesser zero x m b = omega (arith, b)
descends f g h r xs ys d e t u into lesser (suc k) x m b =
    let w = hit f g xs ys (h x) d e t u (into x m) in
    let l = lesser x w.0 m w.1 w.2 in
    descends f g h r xs ys d e t u into lesser k w.0 w.1 (omega (arith, l, b))

-- A LIST THAT RISES, AND THE NUMBERS FROM ONE ON

pub Differ-rises : (low high : ℕ) (xs : List ℕ) → rises_within low high xs ≡ true → Differ xs
Differ-rises low high [] r = none
Differ-rises low high (x ∷ xs) r =
    let outer = and_true (nat_lt low x && nat_le x high) (rises_within x high xs) r in
    more x xs (false_from_ne_true (among xs x) (λ e. let l = bounded x high xs x outer.1 e in omega (arith, l.0))) (Differ-rises x high xs outer.1)

pub among-range : (a len x : ℕ) → a ≤ x → x < a + len → among (range_with_len a len) x ≡ true
among-range a zero x h k = absurd (omega (arith, h, k))
among-range a (suc len) x h k = at_test (a == x) refl (λ l. among-range (a + 1) len x l (omega (arith, k)))
  where
    at_test : (b : Bool) → (a == x) ≡ b → (a + 1 ≤ x → among (range_with_len (a + 1) len) x ≡ true) → (b || among (range_with_len (a + 1) len) x) ≡ true
    at_test true e rest = refl
    at_test false e rest = let n : a ≢ x = λ s. let f : true ≡ false = sym (eq-eqb a x s) ∙ e in let g : ⊥ = cc in g in rest (omega (arith, n, h))

pub Differ-range : (a len : ℕ) → Differ (range_with_len a len)
Differ-range a zero = none
Differ-range a (suc len) = more a (range_with_len (a + 1) len)
    (false_from_ne_true (among (range_with_len (a + 1) len) a) (λ e. let l = in_range (a + 1) len a e in omega (arith, l.0)))
    (Differ-range (a + 1) len)

-- numbers in a row and one more
pub range_more : (a len : ℕ) → range_with_len a (suc len) ≡ range_with_len a len ++ (a + len) ∷ []
range_more a zero = let same : a ≡ a + zero = omega arith in ap (λ (n : ℕ). n ∷ []) same
range_more a (suc len) =
    let same : (a + 1) + len ≡ a + suc len = omega arith in
    ap (λ (ns : List ℕ). a ∷ ns) (range_more (a + 1) len ∙ ap (λ (n : ℕ). range_with_len (a + 1) len ++ n ∷ []) same)
