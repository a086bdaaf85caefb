-- The new numbers of kept numbers: how many are kept before them.
use Rattle.std.proofs.Common.{◌≡◌, ℕ, zero, suc, ◌+◌, ◌-◌, ◌<◌, ◌≤◌, Bool, true, false, cond, ◌==◌, nat_lt, List, [], ◌∷◌, refl, sym, ◌∙◌, ap, subst, arith, length, map, filter, ◌⊎◌, inl, inr}
use Rattle.std.specs.List.{range_with_len, position_or_len}
use Rattle.std.proofs.lemmas.Bool.{leb-true, leb-false, le-leb, eqb-true, eq-eqb, le-ltb, ne_eqb as differ_test}
use Rattle.lk_model.specs.declared.document.Step.{Step}
use Rattle.refutation_log.specs.Derivation.{are_numbered}
use Rattle.refutation_log.specs.Trimmed.{new_number}
use Rattle.refutation_log.proofs.Steps.{head_number}

-- how many of n numbers from a on are kept
abbrev pub count_kept : (ℕ → Bool) → ℕ → ℕ → ℕ
count_kept K a n = length (filter K (range_with_len a n))

pub count_more : (K : ℕ → Bool) (n a b : ℕ) → a + n ≡ b → count_kept K a (suc n) ≡ count_kept K a n + cond (K b) 1 0
count_more K zero a b e = let same : a ≡ b = omega (arith, e) in rw (same) (at (K b))
  where
    at : (x : Bool) → length (cond x (b ∷ []) []) ≡ 0 + cond x 1 0
    at true = refl
    at false = refl
count_more K (suc n) a b e = at (K a) (count_more K n (a + 1) b (omega (arith, e)))
  where
    at : (x : Bool) → count_kept K (a + 1) (suc n) ≡ count_kept K (a + 1) n + cond (K b) 1 0
        → length (cond x (a ∷ filter K (range_with_len (a + 1) (suc n))) (filter K (range_with_len (a + 1) (suc n))))
        ≡ length (cond x (a ∷ filter K (range_with_len (a + 1) n)) (filter K (range_with_len (a + 1) n))) + cond (K b) 1 0
    at true h = omega (arith, h)
    at false h = h

count_least : (K : ℕ → Bool) (a i d j : ℕ) → i + d ≡ j → count_kept K a i ≤ count_kept K a j
count_least K a i zero j e = let same : i ≡ j = omega (arith, e) in subst (λ n. count_kept K a i ≤ count_kept K a n) same (omega arith)
count_least K a i (suc d) j e =
    let h = count_least K a i d (i + d) refl in
    let more = count_more K (i + d) a (a + (i + d)) refl in
    let next : suc (i + d) ≡ j = omega (arith, e) in
    subst (λ n. count_kept K a i ≤ count_kept K a n) next (omega (arith, h, more))

-- a kept number counts for those after it
pub count_less : (K : ℕ → Bool) (a i j b : ℕ) → i < j → a + i ≡ b → K b ≡ true → count_kept K a i < count_kept K a j
count_less K a i j b lt e kept =
    let more : count_kept K a (suc i) ≡ count_kept K a i + 1 = count_more K i a b e ∙ ap (λ x. count_kept K a i + cond x 1 0) kept in
    let least : count_kept K a (suc i) ≤ count_kept K a j = count_least K a (suc i) (j - suc i) j (omega arith) in
    omega (arith, more, least)

-- the new number: of a kept step by how many are kept before it, and of a position the same
abbrev pub new_of : (ℕ → Bool) → ℕ → ℕ → ℕ → ℕ
new_of K first next k = cond (nat_lt k first) k (next + count_kept K first (k - first))

pub new_position : (K : ℕ → Bool) (first next k : ℕ) → k < first → new_of K first next k ≡ k
new_position K first next k lt = rw (le-leb (suc k) first lt) refl

pub new_step : (K : ℕ → Bool) (first next k : ℕ) → first ≤ k → new_of K first next k ≡ next + count_kept K first (k - first)
new_step K first next k le = rw (le-ltb k first le) refl

-- A number that a kept chain may name: one below a bound, or that of a kept step below the top.
pub data Valid (K : ℕ → Bool) (bound first top k : ℕ) : Type 0 where
  a_position : k < bound → Valid K bound first top k
  a_step : first ≤ k → k < top → K k ≡ true → Valid K bound first top k

-- kept steps keep their order
pub new_less : (K : ℕ → Bool) (bound first next top j k : ℕ) → bound ≤ next → next ≤ first → Valid K bound first top j → first ≤ k → j < k
    → new_of K first next j < new_of K first next k
new_less K bound first next top j k b n (a_position lt) le below =
    let e = new_position K first next j (omega (arith, lt, b, n)) in let f = new_step K first next k le in omega (arith, e, f, lt, b)
new_less K bound first next top j k b n (a_step le1 in1 k1) le below =
    let e = new_step K first next j le1 in let f = new_step K first next k le in
    let less = count_less K first (j - first) (k - first) j (omega arith) (omega arith) k1 in omega (arith, e, f, less)

-- and differ from each other and from positions
pub new_apart : (K : ℕ → Bool) (bound first next top j k : ℕ) → bound ≤ next → next ≤ first → Valid K bound first top j → Valid K bound first top k
    → (new_of K first next j == new_of K first next k) ≡ (j == k)
new_apart K bound first next top j k b n (a_position lt1) (a_position lt2) =
    rw (new_position K first next j (omega (arith, lt1, b, n)), new_position K first next k (omega (arith, lt2, b, n))) refl
new_apart K bound first next top j k b n (a_position lt1) (a_step le2 in2 k2) =
    let e = new_position K first next j (omega (arith, lt1, b, n)) in let f = new_step K first next k le2 in
    differ_test (new_of K first next j) (new_of K first next k) (λ same. omega (arith, same, e, f, lt1, b))
    ∙ sym (differ_test j k (λ same. omega (arith, same, lt1, le2, b, n)))
new_apart K bound first next top j k b n (a_step le1 in1 k1) (a_position lt2) =
    let e = new_step K first next j le1 in let f = new_position K first next k (omega (arith, lt2, b, n)) in
    differ_test (new_of K first next j) (new_of K first next k) (λ same. omega (arith, same, e, f, lt2, b))
    ∙ sym (differ_test j k (λ same. omega (arith, same, lt2, le1, b, n)))
new_apart K bound first next top j k b n (a_step le1 in1 k1) (a_step le2 in2 k2) = at (j == k) refl
  where
    at : (x : Bool) → (j == k) ≡ x → (new_of K first next j == new_of K first next k) ≡ (j == k)
    at true e = let same = eqb-true j k e in rw (e) (eq-eqb (new_of K first next j) (new_of K first next k) (ap (new_of K first next) same))
    at false e = rw (e) (differ_test (new_of K first next j) (new_of K first next k) (λ same. apart (sides j k (λ s. differs e s)) same))
      where
        differs : (j == k) ≡ false → j ≡ k → ⊥
        differs e s = let t : true ≡ false = sym (eq-eqb j k s) ∙ e in let f : ⊥ = cc in f

        sides : (j k : ℕ) → (j ≡ k → ⊥) → (j < k) ⊎ (k < j)
        sides j k ne = by_test (nat_lt j k) refl
          where
            by_test : (x : Bool) → nat_lt j k ≡ x → (j < k) ⊎ (k < j)
            by_test true e = inl (let h = leb-true (suc j) k e in omega (arith, h))
            by_test false e = inr (let h = leb-false (suc j) k e in omega (arith, h, ne))

        apart : (j < k) ⊎ (k < j) → new_of K first next j ≡ new_of K first next k → ⊥
        apart (inl lt) same = let h = new_less K bound first next top j k b n (a_step le1 in1 k1) le2 lt in omega (arith, h, same)
        apart (inr lt) same = let h = new_less K bound first next top k j b n (a_step le2 in2 k2) le1 lt in omega (arith, h, same)

-- PLACES AMONG THE KEPT NUMBERS

-- the place of a kept number
pub place_kept : (K : ℕ → Bool) (n i a b : ℕ) → i < n → a + i ≡ b → K b ≡ true
    → (position_or_len (λ k. k == b) (filter K (range_with_len a n)) ≡ count_kept K a i) × (count_kept K a i < count_kept K a n)
place_kept K zero i a b lt e kept = absurd (omega arith)
place_kept K (suc n) zero a b lt e kept =
    let same : a ≡ b = omega (arith, e) in rw (same, kept, eq-eqb b b refl) (refl, omega arith)
place_kept K (suc n) (suc i) a b lt e kept = at (K a) (place_kept K n i (a + 1) b (omega arith) (omega (arith, e)) kept)
  where
    at : (x : Bool)
        → (position_or_len (λ k. k == b) (filter K (range_with_len (a + 1) n)) ≡ count_kept K (a + 1) i) × (count_kept K (a + 1) i < count_kept K (a + 1) n)
        → (position_or_len (λ k. k == b) (cond x (a ∷ filter K (range_with_len (a + 1) n)) (filter K (range_with_len (a + 1) n)))
        ≡ length (cond x (a ∷ filter K (range_with_len (a + 1) i)) (filter K (range_with_len (a + 1) i))))
        × (length (cond x (a ∷ filter K (range_with_len (a + 1) i)) (filter K (range_with_len (a + 1) i)))
        < length (cond x (a ∷ filter K (range_with_len (a + 1) n)) (filter K (range_with_len (a + 1) n))))
    at true h = let other : (a == b) ≡ false = differ_test a b (λ s. omega (arith, s, e)) in rw (other) (omega (arith, h.0), omega (arith, h.1))
    at false h = h

no_place : (K : ℕ → Bool) (n a k : ℕ) → k < a → position_or_len (λ j. j == k) (filter K (range_with_len a n)) ≡ count_kept K a n
no_place K zero a k lt = refl
no_place K (suc n) a k lt = at (K a) (no_place K n (a + 1) k (omega arith))
  where
    at : (x : Bool) → position_or_len (λ j. j == k) (filter K (range_with_len (a + 1) n)) ≡ count_kept K (a + 1) n
        → position_or_len (λ j. j == k) (cond x (a ∷ filter K (range_with_len (a + 1) n)) (filter K (range_with_len (a + 1) n)))
        ≡ length (cond x (a ∷ filter K (range_with_len (a + 1) n)) (filter K (range_with_len (a + 1) n)))
    at true h = let other : (a == k) ≡ false = differ_test a k (λ s. omega (arith, s, lt)) in rw (other) (omega (arith, h))
    at false h = h

pub new_number_is : (K : ℕ → Bool) (bound first next n k : ℕ) → bound ≤ first → Valid K bound first (first + n) k
    → new_number (filter K (range_with_len first n)) next k ≡ new_of K first next k
new_number_is K bound first next n k b (a_position lt) =
    let none = no_place K n first k (omega (arith, lt, b)) in
    rw (none, le-ltb (count_kept K first n) (count_kept K first n) (omega arith)) (sym (new_position K first next k (omega (arith, lt, b))))
new_number_is K bound first next n k b (a_step le below is) =
    let place = place_kept K n (k - first) first k (omega arith) (omega arith) is in
    rw (place.0, le-leb (suc (count_kept K first (k - first))) (count_kept K first n) place.1) (sym (new_step K first next k le))

-- the numbers of kept steps
pub kept_numbers : (K : ℕ → Bool) (steps : List Step) (first : ℕ) → are_numbered first steps ≡ true
    → map (λ (s : Step). s.number) (filter (λ (s : Step). K s.number) steps) ≡ filter K (range_with_len first (length steps))
kept_numbers K [] first n = refl
kept_numbers K (s ∷ steps) first n =
    let h = head_number first s steps n in at (K s.number) refl (ap K (sym h.0)) h.0 (kept_numbers K steps (first + 1) h.1)
  where
    at : (x : Bool) → K s.number ≡ x → K first ≡ K s.number → s.number ≡ first
        → map (λ (s : Step). s.number) (filter (λ (s : Step). K s.number) steps) ≡ filter K (range_with_len (first + 1) (length steps))
        → map (λ (s : Step). s.number) (cond (K s.number) (s ∷ filter (λ (s : Step). K s.number) steps) (filter (λ (s : Step). K s.number) steps))
        ≡ cond (K first) (first ∷ filter K (range_with_len (first + 1) (length steps))) (filter K (range_with_len (first + 1) (length steps)))
    at true e f g h = rw (f, e) (ap (λ n. n ∷ map (λ (s : Step). s.number) (filter (λ (s : Step). K s.number) steps)) g ∙ ap (λ ns. first ∷ ns) h)
    at false e f g h = rw (f, e) h
