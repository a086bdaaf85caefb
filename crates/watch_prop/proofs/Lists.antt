-- Lists of numbers: how often a number stands in one, and what becomes of them when a number comes or goes.
use Rattle.std.proofs.Common.{◌≡◌, ◌≢◌, ℕ, zero, suc, ◌+◌, ◌-◌, ◌<◌, ◌≤◌, Bool, true, false, cond, not, ◌||◌, ◌==◌, List, [], ◌∷◌, ◌++◌, refl, sym, ◌∙◌, ap, arith, subst, length, take, drop, filter, get_or, set, get_or-set_other, inl, inr, ◌⊎◌}
use Rattle.std.specs.List.{swap_remove}
use Rattle.std.proofs.lemmas.Bool.{cases_lt, cases_eq, eqb-true, eq-eqb, ne_eqb, false_from_ne_true, not-true}
use Rattle.std.proofs.lemmas.List.{length-take-le, length-set, get_or-take, get_or_default}
use Rattle.lk_model.specs.Lists.{among}
use Rattle.lk_model.proofs.Booleans.{and_true, or_true, or_left, or_right}
use Rattle.lk_model.proofs.Counting.{Differ, no_more}
use Rattle.watch_prop.specs.declared.entry.NumberedClause.{NumberedClause}
use Rattle.watch_prop.specs.Propagation.{are_distinct}
use Rattle.watch_prop.specs.Linked.{clause_at_place}

-- HOW OFTEN A NUMBER STANDS IN A LIST

abbrev pub one : Bool → ℕ
one true = 1
one false = 0

unfoldable pub times : List ℕ → ℕ → ℕ
times [] p = 0
times (x ∷ xs) p = one (x == p) + times xs p

pub times-append : (xs ys : List ℕ) (p : ℕ) → times (xs ++ ys) p ≡ times xs p + times ys p
unfolding times
times-append [] ys p = omega arith
times-append (x ∷ xs) ys p = let h = times-append xs ys p in omega (arith, h)

pub times-push : (xs : List ℕ) (n p : ℕ) → times (xs ++ n ∷ []) p ≡ times xs p + one (n == p)
unfolding times
times-push xs n p = let h = times-append xs (n ∷ []) p in omega (arith, h)

pub some_times : (xs : List ℕ) (p : ℕ) → among xs p ≡ true → 1 ≤ times xs p
unfolding times
some_times [] p h = absurd (let f : ⊥ = cc in f)
some_times (x ∷ xs) p h = at (x == p) (some_times xs p) h
  where
    at : (b : Bool) → (among xs p ≡ true → 1 ≤ times xs p) → (b || among xs p) ≡ true → 1 ≤ one b + times xs p
    at true rest h = omega arith
    at false rest h = let r = rest h in omega arith

pub among_some : (xs : List ℕ) (p : ℕ) → 1 ≤ times xs p → among xs p ≡ true
unfolding times
among_some [] p h = absurd (omega arith)
among_some (x ∷ xs) p h = at (x == p) (among_some xs p) h
  where
    at : (b : Bool) → (1 ≤ times xs p → among xs p ≡ true) → 1 ≤ one b + times xs p → (b || among xs p) ≡ true
    at true rest h = refl
    at false rest h = rest (omega arith)

pub no_times : (xs : List ℕ) (p : ℕ) → among xs p ≡ false → times xs p ≡ 0
no_times xs p h = elim (cases_lt 0 (times xs p)) [
  | inl y ↦ (let f : true ≡ false = sym (among_some xs p (omega arith)) ∙ h in absurd (let z : ⊥ = cc in z))
  | inr y ↦ omega arith
]

pub one_most : (b : Bool) → one b ≤ 1
one_most true = omega arith
one_most false = omega arith

pub one_same : (n : ℕ) → one (n == n) ≡ 1
one_same n = ap one (eq-eqb n n refl)

pub one_apart : (n p : ℕ) → p ≢ n → one (n == p) ≡ 0
one_apart n p a = ap one (ne_eqb n p (λ e. a (sym e)))

-- NO NUMBER TWICE

pub at_most_once : (xs : List ℕ) (p : ℕ) → are_distinct xs ≡ true → times xs p ≤ 1
unfolding times
at_most_once [] p h = omega arith
at_most_once (x ∷ xs) p h =
    let both = and_true (not (among xs x)) (are_distinct xs) h in
    at (x == p) refl (at_most_once xs p both.1) (no_times xs x (not-true (among xs x) both.0))
  where
    at : (b : Bool) → (x == p) ≡ b → times xs p ≤ 1 → times xs x ≡ 0 → one b + times xs p ≤ 1
    at true e le none = let same : times xs x ≡ times xs p = ap (λ (k : ℕ). times xs k) (eqb-true x p e) in omega arith
    at false e le none = omega arith

pub distinct_from_times : (xs : List ℕ) → ((p : ℕ) → times xs p ≤ 1) → are_distinct xs ≡ true
unfolding times
distinct_from_times [] h = refl
distinct_from_times (x ∷ xs) h =
    let out : among xs x ≡ false = false_from_ne_true (among xs x) (λ e.
    let s = some_times xs x e in let o : one (x == x) + times xs x ≤ 1 = h x in let i = one_same x in let z : ⊥ = absurd (omega arith) in z) in
    rw (out) (distinct_from_times xs (λ p. let o : one (x == p) + times xs p ≤ 1 = h p in omega arith))

pub differ : (xs : List ℕ) → are_distinct xs ≡ true → Differ xs
differ [] h = Differ.none
differ (x ∷ xs) h =
    let both = and_true (not (among xs x)) (are_distinct xs) h in
    Differ.more x xs (not-true (among xs x) both.0) (differ xs both.1)

-- what stands at a place
pub among_at : (xs : List ℕ) (at d : ℕ) → at < length xs → among xs (get_or xs at d) ≡ true
among_at [] at d lt = absurd (omega arith)
among_at (x ∷ xs) zero d lt = or_left (x == x) (among xs x) (eq-eqb x x refl)
among_at (x ∷ xs) (suc at) d lt = or_right (x == get_or xs at d) (among xs (get_or xs at d)) (among_at xs at d (omega arith))

-- THE LAST NUMBER TAKES A PLACE

last_times : (n : ℕ) (xs : List ℕ) (d p : ℕ) → length xs ≡ suc n → times (take n xs) p + one (get_or xs n d == p) ≡ times xs p
unfolding times
last_times n [] d p e = absurd (omega arith)
last_times zero (x ∷ []) d p e = omega arith
last_times zero (x ∷ y ∷ xs) d p e = absurd (omega arith)
last_times (suc n) (x ∷ xs) d p e = let h = last_times n xs d p (omega arith) in omega (arith, h)

cut_rest : (n : ℕ) (xs : List ℕ) (at d p : ℕ) → length xs ≡ suc n → at ≤ n
    → times (drop at (take n (set xs at (get_or xs n d)))) p + one (get_or xs at d == p) ≡ times (drop at xs) p
unfolding times
cut_rest n [] at d p e le = absurd (omega arith)
cut_rest zero (x ∷ []) zero d p e le = omega arith
cut_rest zero (x ∷ y ∷ xs) zero d p e le = absurd (omega arith)
cut_rest (suc n) (x ∷ xs) zero d p e le = let h = last_times n xs d p (omega arith) in omega (arith, h)
cut_rest zero (x ∷ xs) (suc at) d p e le = absurd (omega arith)
cut_rest (suc n) (x ∷ xs) (suc at) d p e le = cut_rest n xs at d p (omega arith) (omega arith)

cut_times : (n : ℕ) (xs : List ℕ) (at d p : ℕ) → length xs ≡ suc n → at ≤ n
    → times (take n (set xs at (get_or xs n d))) p + one (get_or xs at d == p) ≡ times xs p
unfolding times
cut_times n [] at d p e le = absurd (omega arith)
cut_times zero (x ∷ []) zero d p e le = omega arith
cut_times zero (x ∷ y ∷ xs) zero d p e le = absurd (omega arith)
cut_times (suc n) (x ∷ xs) zero d p e le = let h = last_times n xs d p (omega arith) in omega (arith, h)
cut_times zero (x ∷ xs) (suc at) d p e le = absurd (omega arith)
cut_times (suc n) (x ∷ xs) (suc at) d p e le = let h = cut_times n xs at d p (omega arith) (omega arith) in omega (arith, h)

-- it stands once less in the list
pub times-swap_remove : (xs : List ℕ) (at d p : ℕ) → at < length xs → times (swap_remove xs at d) p + one (get_or xs at d == p) ≡ times xs p
times-swap_remove xs at d p lt = cut_times (length xs - 1) xs at d p (omega arith) (omega arith)

-- and in what stands from the place on
pub times-rest : (xs : List ℕ) (at d p : ℕ) → at < length xs → times (drop at (swap_remove xs at d)) p + one (get_or xs at d == p) ≡ times (drop at xs) p
times-rest xs at d p lt = cut_rest (length xs - 1) xs at d p (omega arith) (omega arith)

-- what stands before the place stays there
pub swap_remove_before : (xs : List ℕ) (at d k : ℕ) → at < length xs → k < at → get_or (swap_remove xs at d) k 0 ≡ get_or xs k 0
swap_remove_before xs at d k lt before =
    let last = get_or xs (length xs - 1) d in
    get_or-take (length xs - 1) (set xs at last) k 0 (omega arith) ∙ get_or-set_other xs at k last 0 (omega arith)

-- a list without a number twice, and what it is without the number at a place
pub record AreLeft (xs ys : List ℕ) (p : ℕ) : Type 0 where
  pub distinct : are_distinct ys ≡ true
  pub gone : among ys p ≡ false
  pub were : (q : ℕ) → among ys q ≡ true → among xs q ≡ true
  pub stay : (q : ℕ) → q ≢ p → among ys q ≡ false → among xs q ≡ false

pub are_left : (xs : List ℕ) (at p : ℕ) → are_distinct xs ≡ true → at < length xs → get_or xs at 0 ≡ p → AreLeft xs (swap_remove xs at p) p
are_left xs at p d lt e =
    let ys = swap_remove xs at p in
    let here : get_or xs at p ≡ p = get_or_default xs at p 0 lt ∙ e in
    let less : (q : ℕ) → times ys q + one (p == q) ≡ times xs q =
    λ q. ap (λ (k : ℕ). times ys q + one (k == q)) (sym here) ∙ times-swap_remove xs at p q lt in
    record {
      distinct = distinct_from_times ys (λ q. let l = less q in let u = at_most_once xs q d in omega arith);
      gone = false_from_ne_true (among ys p) (λ t. let l = less p in let u = at_most_once xs p d in let o = one_same p in let s = some_times ys p t in let z : ⊥ = absurd (omega arith) in z);
      were = λ q t. let l = less q in let s = some_times ys q t in among_some xs q (omega arith);
      stay = λ q n f. false_from_ne_true (among xs q) (λ t. let l = less q in let o = one_apart p q n in let s = some_times xs q t in
          let g : true ≡ false = sym (among_some ys q (omega arith)) ∙ f in let z : ⊥ = cc in z);
    }

-- where a number stands
pub record IsPlaceOf (xs : List ℕ) (p : ℕ) : Type 0 where
  pub at : ℕ
  pub within : at < length xs
  pub there : get_or xs at 0 ≡ p

pub place_of : (xs : List ℕ) (p : ℕ) → among xs p ≡ true → IsPlaceOf xs p
place_of [] p h = absurd (let f : ⊥ = cc in f)
place_of (x ∷ xs) p h = elim (or_true (x == p) (among xs p) h) [
  | inl y ↦ record { at = 0; within = omega arith; there = eqb-true x p y }
  | inr y ↦ (let r = place_of xs p y in record { at = suc r.at; within = (let w = r.within in omega arith); there = r.there })
]

-- one number more
pub distinct_push : (xs : List ℕ) (n : ℕ) → are_distinct xs ≡ true → among xs n ≡ false → are_distinct (xs ++ n ∷ []) ≡ true
distinct_push xs n d out = distinct_from_times (xs ++ n ∷ []) (λ p. let t = times-push xs n p in elim (cases_eq p n) [
  | inl y ↦ (let none : times xs p ≡ 0 = subst (λ (k : ℕ). times xs k ≡ 0) (sym y) (no_times xs n out) in let o = one_most (n == p) in omega arith)
  | inr y ↦ (let o = one_apart n p y in let m = at_most_once xs p d in omega arith)
])

pub from_push : (xs : List ℕ) (n p : ℕ) → among (xs ++ n ∷ []) p ≡ true → (among xs p ≡ true) ⊎ (p ≡ n)
from_push xs n p h = elim (cases_eq p n) [
  | inl y ↦ inr y
  | inr y ↦ inl (let t = times-push xs n p in let s = some_times (xs ++ n ∷ []) p h in let o = one_apart n p y in among_some xs p (omega arith))
]

pub length-swap_remove : (xs : List ℕ) (at d : ℕ) → at < length xs → length (swap_remove xs at d) + 1 ≡ length xs
length-swap_remove xs at d lt =
    let last = get_or xs (length xs - 1) d in
    let long = length-set xs at last in
    let n = length-take-le (length xs - 1) (set xs at last) (omega arith) in
    omega (arith, n)

-- NO MORE PLACES THAN CLAUSES

-- the places of the clauses that pass, from one on
places : (NumberedClause → Bool) → ℕ → List NumberedClause → List ℕ
places t n [] = []
places t n (c ∷ clauses) = cond (t c) (n ∷ places t (suc n) clauses) (places t (suc n) clauses)

places_length : (t : NumberedClause → Bool) (n : ℕ) (clauses : List NumberedClause) → length (places t n clauses) ≡ length (filter t clauses)
unfolding places
places_length t n [] = refl
places_length t n (c ∷ clauses) = at (t c) (places_length t (suc n) clauses)
  where
    at : (b : Bool) → length (places t (suc n) clauses) ≡ length (filter t clauses)
        → length (cond b (n ∷ places t (suc n) clauses) (places t (suc n) clauses)) ≡ length (cond b (c ∷ filter t clauses) (filter t clauses))
    at true h = ap suc h
    at false h = h

in_places : (t : NumberedClause → Bool) (n : ℕ) (clauses : List NumberedClause) (place q : ℕ) → place < length clauses → t (clause_at_place clauses place) ≡ true → n + place ≡ q
    → among (places t n clauses) q ≡ true
unfolding places
in_places t n [] place q lt h e = absurd (omega arith)
in_places t n (c ∷ clauses) zero q lt h e =
    let same : n ≡ q = omega arith in
    rw (h) (or_left (n == q) (among (places t (suc n) clauses) q) (eq-eqb n q same))
in_places t n (c ∷ clauses) (suc place) q lt h e = at (t c) (in_places t (suc n) clauses place q (omega arith) h (omega arith))
  where
    at : (b : Bool) → among (places t (suc n) clauses) q ≡ true → among (cond b (n ∷ places t (suc n) clauses) (places t (suc n) clauses)) q ≡ true
    at true h = or_right (n == q) (among (places t (suc n) clauses) q) h
    at false h = h

pub record ArePlaces (t : NumberedClause → Bool) (clauses : List NumberedClause) (ps : List ℕ) : Type 0 where
  pub distinct : are_distinct ps ≡ true
  pub within : (p : ℕ) → among ps p ≡ true → p < length clauses
  pub pass : (p : ℕ) → among ps p ≡ true → t (clause_at_place clauses p) ≡ true

-- distinct places of clauses that pass are no more than the clauses that pass
pub no_more_places : (t : NumberedClause → Bool) (clauses : List NumberedClause) (ps : List ℕ) → ArePlaces t clauses ps → length ps ≤ length (filter t clauses)
no_more_places t clauses ps h =
    let n = no_more (λ (p : ℕ). p) ps (places t 0 clauses) (differ ps h.distinct) (record {
      into = λ p e. in_places t 0 clauses p p (h.within p e) (h.pass p e) (omega arith);
      one = λ p q e f s. s;
    }) in
    let long = places_length t 0 clauses in
    omega (arith, n, long)
