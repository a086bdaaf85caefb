-- Lists that rise.
use Rattle.std.proofs.Common.{◌≡◌, ℕ, zero, suc, ◌<◌, ◌∙◌, true, false, List, [], ◌∷◌, map, refl, sym, ap, subst, arith, inl, inr, Contains}
use Rattle.std.specs.Prelude.{◌==◌}
use Rattle.std.proofs.lemmas.Bool.{both_ways, eqb-true}
use Rattle.std.proofs.lemmas.List.{map-id}
use Rattle.lk_model.specs.Lists.{among, rises_within}
use Rattle.lk_model.proofs.Booleans.{or_true}
use Rattle.lk_model.proofs.Lists.{among_here, among_later}
use Rattle.lk_model.proofs.Rising.{rises, bounded}
use Rattle.lk_model.proofs.Counting.{Differ, more}
use Rattle.lk_model.proofs.Keys.{key_found, key_among}

-- a number past the first one is a later one
past_first : (n k : ℕ) (ns : List ℕ) → n < k → among (n ∷ ns) k ≡ true → among ns k ≡ true
past_first n k ns lt e = elim (or_true (n == k) (among ns k) e) [
  | inl here ↦ absurd (let same = eqb-true n k here in omega (arith, same, lt))
  | inr later ↦ later
]

-- two lists that rise begin with the same number where each has the other's first one
same_first : (m n high top : ℕ) (ms ns : List ℕ) → rises_within m high ms ≡ true → rises_within n top ns ≡ true
    → among (n ∷ ns) m ≡ true → among (m ∷ ms) n ≡ true → m ≡ n
same_first m n high top ms ns a b there back = elim (or_true (n == m) (among ns m) there) [
  | inl here ↦ sym (eqb-true n m here)
  | inr later ↦ (elim (or_true (m == n) (among ms n) back) [
    | inl here ↦ eqb-true m n here
    | inr after ↦ absurd (let p = (bounded n top ns m b later).0 in let q = (bounded m high ms n a after).0 in omega (arith, p, q))
  ])
]

-- lists that rise and have the same numbers are one
pub same_rising : (low high base top : ℕ) (ms ns : List ℕ) → rises_within low high ms ≡ true → rises_within base top ns ≡ true
    → ((k : ℕ) → among ms k ≡ true → among ns k ≡ true) → ((k : ℕ) → among ns k ≡ true → among ms k ≡ true) → ms ≡ ns
same_rising low high base top [] [] a b there back = refl
same_rising low high base top [] (n ∷ ns) a b there back = absurd (both_ways false refl (back n (among_here n ns)))
same_rising low high base top (m ∷ ms) [] a b there back = absurd (both_ways false refl (there m (among_here m ms)))
same_rising low high base top (m ∷ ms) (n ∷ ns) a b there back =
    let p = rises low high m ms a in
    let q = rises base top n ns b in
    let first : m ≡ n = same_first m n high top ms ns p.more q.more (there m (among_here m ms)) (back n (among_here n ns)) in
    let rest : ms ≡ ns = same_rising m high n top ms ns p.more q.more
    (λ k e. let lt = (bounded m high ms k p.more e).0 in past_first n k ns (omega (arith, lt, first)) (there k (among_later m k ms e)))
    (λ k e. let lt = (bounded n top ns k q.more e).0 in past_first m k ms (omega (arith, lt, first)) (back k (among_later n k ns e))) in
    ap (λ (x : ℕ). x ∷ ms) first ∙ ap (λ (xs : List ℕ). n ∷ xs) rest

-- a number of a list, in two words
pub among_contains : (ns : List ℕ) (n : ℕ) → among ns n ≡ true → Contains ns n
among_contains ns n e =
    let w = key_found (λ (k : ℕ). k) ns n (subst (λ (ms : List ℕ). among ms n ≡ true) (sym (map-id ns)) e) in
    subst (λ (k : ℕ). Contains ns k) w.at w.there

-- where no key stands twice, an item is given by its key
pub same_item : {X : Type 0} (key : X → ℕ) (xs : List X) (x y : X) → Differ (map key xs) → Contains xs x → Contains xs y → key x ≡ key y → x ≡ y
same_item key [] x y d (k, lt, e) c same = absurd (omega (arith, lt))
same_item key (z ∷ xs) x y (more v vs out d) (zero, lt, e) (zero, lt', e') same = sym e ∙ e'
same_item key (z ∷ xs) x y (more v vs out d) (zero, lt, e) (suc j, lt', e') same =
    absurd (both_ways (among (map key xs) (key z)) out
    (subst (λ (k : ℕ). among (map key xs) k ≡ true) (sym (ap key e ∙ same)) (key_among key xs y (j, omega (arith, lt'), e'))))
same_item key (z ∷ xs) x y (more v vs out d) (suc i, lt, e) (zero, lt', e') same =
    absurd (both_ways (among (map key xs) (key z)) out
    (subst (λ (k : ℕ). among (map key xs) k ≡ true) (same ∙ sym (ap key e')) (key_among key xs x (i, omega (arith, lt), e))))
same_item key (z ∷ xs) x y (more v vs out d) (suc i, lt, e) (suc j, lt', e') same =
    same_item key xs x y d (i, omega (arith, lt), e) (j, omega (arith, lt'), e') same
