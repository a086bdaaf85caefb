-- New numbers of steps.
use Rattle.std.proofs.Common.{◌≡◌, ℕ, zero, suc, ◌+◌, ◌-◌, ◌<◌, ◌≤◌, Bool, true, false, cond, List, [], ◌∷◌, ◌++◌, refl, sym, ◌∙◌, ap, subst, arith, length, map, get_or, filter, take, drop}
use Rattle.std.proofs.lemmas.List.{drop_more, get_or_at, length-map, length-take-le, map-id, take_more, map-append, append-nil}
use Rattle.std.proofs.lemmas.List.Elements.{filter-append}
use Rattle.std.proofs.lemmas.List.FromFn.{filter_of_map_range_with_len_more}
use Rattle.std.specs.List.{range_with_len}

-- a map in place that has come to an index
pub mapped_get : {X : Type 0} (f : X → X) (xs : List X) (i : ℕ) (d : X) → i < length xs → get_or (map f (take i xs) ++ drop i xs) i d ≡ get_or xs i d
mapped_get f xs i d lt =
    rw (drop_more xs i d lt) (get_or_at (map f (take i xs)) (get_or xs i d) (drop (i + 1) xs) d i (length-map (take i xs) f ∙ length-take-le i xs (omega arith)))

-- the numbers of a range that pass, with the next one
pub more_in_range : (t : ℕ → Bool) (p : ℕ) → 1 ≤ p → filter t (range_with_len 1 p) ≡ filter t (range_with_len 1 (p - 1)) ++ cond (t p) (p ∷ []) []
more_in_range t p le =
    let same : p - 1 + 1 ≡ p = omega arith in
    subst (λ n. filter t (range_with_len 1 n) ≡ filter t (range_with_len 1 (p - 1)) ++ cond (t p) (p ∷ []) []) same
    (ap (filter t) (sym (map-id (range_with_len 1 (p - 1 + 1))))
    ∙ filter_of_map_range_with_len_more t (λ q. q) 1 (p - 1) p (omega arith)
    ∙ ap (λ qs. filter t qs ++ cond (t p) (p ∷ []) []) (map-id (range_with_len 1 (p - 1))))

-- one more element that passes
pub more_passes : {X : Type 0} (p : X → Bool) (f : X → X) (xs : List X) (i : ℕ) (x : X) → i < length xs → x ≡ get_or xs i x → p x ≡ true
    → map f (filter p (take (i + 1) xs)) ≡ map f (filter p (take i xs)) ++ f x ∷ []
more_passes p f xs i x lt e passes =
    let more : take (i + 1) xs ≡ take i xs ++ x ∷ [] = take_more xs i x lt ∙ ap (λ y. take i xs ++ y ∷ []) (sym e) in
    ap (λ ys. map f (filter p ys)) more
    ∙ ap (map f) (filter-append p (take i xs) (x ∷ []) ∙ ap (λ b. filter p (take i xs) ++ cond b (x ∷ []) []) passes)
    ∙ map-append f (filter p (take i xs)) (x ∷ [])

-- one more element that fails
pub more_fails : {X : Type 0} (p : X → Bool) (f : X → X) (xs : List X) (i : ℕ) (x : X) → i < length xs → x ≡ get_or xs i x → p x ≡ false
    → map f (filter p (take (i + 1) xs)) ≡ map f (filter p (take i xs))
more_fails p f xs i x lt e fails =
    let more : take (i + 1) xs ≡ take i xs ++ x ∷ [] = take_more xs i x lt ∙ ap (λ y. take i xs ++ y ∷ []) (sym e) in
    ap (λ ys. map f (filter p ys)) more
    ∙ ap (map f) (filter-append p (take i xs) (x ∷ []) ∙ ap (λ b. filter p (take i xs) ++ cond b (x ∷ []) []) fails ∙ append-nil (filter p (take i xs)))

-- tests that agree on a range
pub same_in_range : (p q : ℕ → Bool) (n a : ℕ) → ((k : ℕ) → a ≤ k → k < a + n → p k ≡ q k) → filter p (range_with_len a n) ≡ filter q (range_with_len a n)
same_in_range p q zero a same = refl
same_in_range p q (suc n) a same =
    rw (same a (omega arith) (omega arith), same_in_range p q n (a + 1) (λ k le lt. same k (omega (arith, le)) (omega (arith, lt)))) refl
