-- Lists, and the numbers that stand in them.
use Rattle.std.proofs.Common.{◌≡◌, ℕ, zero, suc, ◌+◌, ◌<◌, ◌≤◌, Bool, true, false, cond, List, [], ◌∷◌, ◌++◌, length, drop, get_or, filter, refl, sym, ◌∙◌, ap, arith, ◌==◌, nat_lt, ◌⊎◌, inl, inr, ◌||◌, subst, map}
use Rattle.std.specs.List.{list_all}
use Rattle.std.proofs.lemmas.Bool.{leb-true, eqb-true, eq-eqb}
use Rattle.std.proofs.lemmas.List.{drop_more}
use Rattle.std.proofs.lemmas.List.Folds.{list_any-append}
use Rattle.lk_model.specs.Lists.{among, is_empty}
use Rattle.lk_model.proofs.Booleans.{and_true, or_left, or_right, or_true}

-- the rest of a list from a place on, of which the first element was read
pub drop_read : {X : Type 0} (xs : List X) (i : ℕ) (x : X) → i < length xs → x ≡ get_or xs i x → drop i xs ≡ x ∷ drop (i + 1) xs
drop_read xs i x lt e = drop_more xs i x lt ∙ ap (λ y. y ∷ drop (i + 1) xs) (sym e)

-- a list with a length is not empty
pub not_empty : (xs : List ℕ) → 0 < length xs → is_empty xs ≡ false
not_empty [] h = absurd (omega (arith, h))
not_empty (x ∷ xs) h = refl

-- WHAT STANDS IN A LIST OF NUMBERS

-- the first number of a list stands there
pub among_here : (n : ℕ) (ns : List ℕ) → among (n ∷ ns) n ≡ true
among_here n ns = or_left (n == n) (among ns n) (eq-eqb n n refl)

-- and so does a later one
pub among_later : (n k : ℕ) (ns : List ℕ) → among ns k ≡ true → among (n ∷ ns) k ≡ true
among_later n k ns e = or_right (n == k) (among ns k) e

-- what is read at a place stands in the list
pub among_at : (ns : List ℕ) (i : ℕ) → i < length ns → among ns (get_or ns i 0) ≡ true
among_at [] i h = absurd (omega (arith, h))
among_at (n ∷ ns) zero h = among_here n ns
among_at (n ∷ ns) (suc i) h = among_later n (get_or ns i 0) ns (among_at ns i (omega (arith, h)))

-- and what stands there has a place
pub place_of : (ns : List ℕ) (k : ℕ) → among ns k ≡ true → (i : ℕ) × (i < length ns) × (get_or ns i 0 ≡ k)
place_of [] k e = absurd (let f : ⊥ = cc in f)
place_of (n ∷ ns) k e = elim (or_true (n == k) (among ns k) e) [
  | inl here ↦ (0, omega arith, eqb-true n k here)
  | inr later ↦ (let w = place_of ns k later in let l = w.1 in (suc w.0, omega (arith, l), w.2))
]

-- a number of the first of two lists stands in both together
pub among_left : (ns ms : List ℕ) (k : ℕ) → among ns k ≡ true → among (ns ++ ms) k ≡ true
among_left [] ms k e = absurd (let f : ⊥ = cc in f)
among_left (n ∷ ns) ms k e = elim (or_true (n == k) (among ns k) e) [
  | inl here ↦ or_left (n == k) _ here
  | inr more ↦ or_right (n == k) _ (among_left ns ms k more)
]

-- and so does one of the second
pub among_right : (ns ms : List ℕ) (k : ℕ) → among ms k ≡ true → among (ns ++ ms) k ≡ true
among_right [] ms k e = e
among_right (n ∷ ns) ms k e = or_right (n == k) _ (among_right ns ms k e)

-- with one number more, those before it stand there
pub among_front : (ns : List ℕ) (n k : ℕ) → among ns k ≡ true → among (ns ++ n ∷ []) k ≡ true
among_front ns n k there = list_any-append (λ j. j == k) ns (n ∷ []) ∙ or_left (among ns k) ((n == k) || false) there

-- and so does that one
pub among_last : (ns : List ℕ) (n : ℕ) → among (ns ++ n ∷ []) n ≡ true
among_last ns n = list_any-append (λ k. k == n) ns (n ∷ []) ∙ or_right (among ns n) ((n == n) || false) (or_left (n == n) false (eq-eqb n n refl))

-- a number of two lists together is one of either
pub among_either : (ns ms : List ℕ) (k : ℕ) → among (ns ++ ms) k ≡ true → (among ns k ≡ true) ⊎ (among ms k ≡ true)
among_either [] ms k e = inr e
among_either (n ∷ ns) ms k e = elim (or_true (n == k) (among (ns ++ ms) k) e) [
  | inl here ↦ inl (or_left (n == k) _ here)
  | inr more ↦ elim (among_either ns ms k more) [ inl there ↦ inl (or_right (n == k) _ there) | inr there ↦ inr there ]
]

-- and so the numbers of both are
pub among_append : (ns ms : List ℕ) (k : ℕ) → among (ns ++ ms) k ≡ (among ns k || among ms k)
among_append ns ms k = list_any-append (λ n. n == k) ns ms

-- where all numbers of a list lie below n, each of them does
pub name_lower : (n : ℕ) (ns : List ℕ) (k : ℕ) → list_all (λ j. nat_lt j n) ns ≡ true → among ns k ≡ true → k < n
name_lower n [] k a e = absurd (let f : ⊥ = cc in f)
name_lower n (j ∷ ns) k a e =
    let both = and_true (nat_lt j n) (list_all (λ j. nat_lt j n) ns) a in
    elim (or_true (j == k) (among ns k) e) [
      | inl here ↦ (let same = eqb-true j k here in let below = leb-true (suc j) n both.0 in omega (arith, same, below))
      | inr more ↦ name_lower n ns k both.1 more
    ]

-- what a number of the list is taken to
pub in_mapped : (f : ℕ → ℕ) (ns : List ℕ) (k : ℕ) → among ns k ≡ true → among (map f ns) (f k) ≡ true
in_mapped f [] k m = absurd (let g : ⊥ = cc in g)
in_mapped f (n ∷ ns) k m = elim (or_true (n == k) (among ns k) m) [
  | inl here ↦ subst (λ (j : ℕ). among (map f (n ∷ ns)) (f j) ≡ true) (eqb-true n k here) (among_here (f n) (map f ns))
  | inr later ↦ among_later (f n) (f k) (map f ns) (in_mapped f ns k later)
]

-- and each new number comes from one of the list
pub from_mapped : (f : ℕ → ℕ) (ns : List ℕ) (k : ℕ) → among (map f ns) k ≡ true → (j : ℕ) × (among ns j ≡ true) × (f j ≡ k)
from_mapped f [] k e = absurd (let z : ⊥ = cc in z)
from_mapped f (n ∷ ns) k e = elim (or_true (f n == k) (among (map f ns) k) e) [
  | inl here ↦ (n, among_here n ns, eqb-true (f n) k here)
  | inr later ↦ (let w = from_mapped f ns k later in (w.0, among_later n w.0 ns w.1, w.2))
]

-- what is left by a test is not longer
pub filter_length : (t : ℕ → Bool) (ns : List ℕ) → length (filter t ns) ≤ length ns
filter_length t [] = omega arith
filter_length t (n ∷ ns) = at_test (t n) (filter_length t ns)
  where
    at_test : (b : Bool) → length (filter t ns) ≤ length ns → length (cond b (n ∷ filter t ns) (filter t ns)) ≤ suc (length ns)
    at_test true h = omega (arith, h)
    at_test false h = omega (arith, h)
