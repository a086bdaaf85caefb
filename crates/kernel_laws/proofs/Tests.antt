-- Two tests together, and tests over lists.
use Rattle.std.proofs.Common.{◌≡◌, ℕ, Bool, true, false, not, ◌&&◌, ◌||◌, cond, List, [], ◌∷◌, filter, refl, ap, ◌∙◌}
use Rattle.std.specs.List.{list_any}
use Rattle.std.proofs.lemmas.Bool.{not-false}
use Rattle.lk_model.specs.Lists.{among}
use Rattle.lk_model.proofs.Lists.{among_here, among_later}

-- where the first of two tests passes and not both, the second fails
pub second_fails : (a b : Bool) → a ≡ true → (a && b) ≡ false → b ≡ false
second_fails true b y e = e
second_fails false b y e = absurd (let f : ⊥ = cc in f)

-- and passes where its negation does not
pub second_passes : (a b : Bool) → a ≡ true → (a && not b) ≡ false → b ≡ true
second_passes a b y e = not-false b (second_fails a (not b) y e)

-- a test that passes wherever another one does
pub follows : (a b : Bool) → (a ≡ true → b ≡ true) → (a && not b) ≡ false
follows false b h = refl
follows true b h = ap not (h refl)

-- tests that agree
pub any_same : {X : Type 0} (t u : X → Bool) (xs : List X) → ((x : X) → t x ≡ u x) → list_any t xs ≡ list_any u xs
any_same t u [] h = refl
any_same t u (x ∷ xs) h = rw (h x, any_same t u xs h) refl

-- one of two tests passes where the first does or the second
pub any_or : {X : Type 0} (s t : X → Bool) (xs : List X) → list_any (λ x. s x || t x) xs ≡ (list_any s xs || list_any t xs)
any_or s t [] = refl
any_or s t (x ∷ xs) = rw (any_or s t xs) (swap (s x) (t x) (list_any s xs) (list_any t xs))
  where
    swap : (a b c d : Bool) → ((a || b) || (c || d)) ≡ ((a || c) || (b || d))
    swap true b c d = refl
    swap false true true d = refl
    swap false true false d = refl
    swap false false true d = refl
    swap false false false d = refl

-- tests that agree on the numbers of a list leave the same ones
pub filter_same : (t u : ℕ → Bool) (ns : List ℕ) → ((n : ℕ) → among ns n ≡ true → t n ≡ u n) → filter t ns ≡ filter u ns
filter_same t u [] h = refl
filter_same t u (n ∷ ns) h =
    ap (λ (b : Bool). cond b (n ∷ filter t ns) (filter t ns)) (h n (among_here n ns))
    ∙ ap (λ (ks : List ℕ). cond (u n) (n ∷ ks) ks) (filter_same t u ns (λ k m. h k (among_later n k ns m)))
