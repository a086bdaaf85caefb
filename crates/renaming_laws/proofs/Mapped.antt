-- Lists of which each element is told anew, and tests over them.
use Rattle.std.proofs.Common.{◌≡◌, ℕ, ◌<◌, ◌≤◌, Bool, true, false, cond, ◌+◌, zero, suc, length, List, [], ◌∷◌, ◌++◌, refl, sym, ◌∙◌, ap, subst, Some, inl, inr, map, filter, find, arith, ◌==◌, nat_lt, nat_le, get_or, option_map}
use Rattle.std.specs.List.{list_any, list_all, flat_map, range_with_len}
use Rattle.std.proofs.lemmas.Bool.{cases_Bool, both_ways, false_from_ne_true, eqb-true, eqb-false, ltb-true, ltb-false, eq-eqb, ne_eqb, lt-ltb, le-leb, and_from}
use Rattle.std.proofs.lemmas.List.{map-append}
use Rattle.lk_model.specs.Lists.{among, is_empty, is_between, rises_within}
use Rattle.lk_model.proofs.Booleans.{and_true, or_true}
use Rattle.lk_model.proofs.Rising.{rises, bounded}

-- TESTS

-- one of the new ones passes where one of the old ones passes the old test
pub any_mapped : {X Y : Type 0} (f : X → Y) (t : Y → Bool) (u : X → Bool) → ((x : X) → t (f x) ≡ u x) → (xs : List X) → list_any t (map f xs) ≡ list_any u xs
any_mapped f t u h [] = refl
any_mapped f t u h (x ∷ xs) = rw (h x, any_mapped f t u h xs) refl

-- all do where all do
pub all_mapped : {X Y : Type 0} (f : X → Y) (t : Y → Bool) (u : X → Bool) → ((x : X) → t (f x) ≡ u x) → (xs : List X) → list_all t (map f xs) ≡ list_all u xs
all_mapped f t u h [] = refl
all_mapped f t u h (x ∷ xs) = rw (h x, all_mapped f t u h xs) refl

-- the same ones are left
pub filter_mapped : {X Y : Type 0} (f : X → Y) (t : Y → Bool) (u : X → Bool) → ((x : X) → t (f x) ≡ u x) → (xs : List X) → filter t (map f xs) ≡ map f (filter u xs)
filter_mapped f t u h [] = refl
filter_mapped f t u h (x ∷ xs) = at_test (t (f x)) (u x) (h x) (filter_mapped f t u h xs)
  where
    at_test : (a b : Bool) → a ≡ b → filter t (map f xs) ≡ map f (filter u xs) → cond a (f x ∷ filter t (map f xs)) (filter t (map f xs)) ≡ map f (cond b (x ∷ filter u xs) (filter u xs))
    at_test true true e rest = ap (λ ys. f x ∷ ys) rest
    at_test false false e rest = rest
    at_test true false e rest = absurd (let z : ⊥ = cc in z)
    at_test false true e rest = absurd (let z : ⊥ = cc in z)

-- and the same one is found
pub find_mapped : {X Y : Type 0} (f : X → Y) (t : Y → Bool) (u : X → Bool) → ((x : X) → t (f x) ≡ u x) → (xs : List X) → find t (map f xs) ≡ option_map f (find u xs)
find_mapped f t u h [] = refl
find_mapped f t u h (x ∷ xs) = at_test (t (f x)) (u x) (h x) (find_mapped f t u h xs)
  where
    at_test : (a b : Bool) → a ≡ b → find t (map f xs) ≡ option_map f (find u xs) → cond a (Some (f x)) (find t (map f xs)) ≡ option_map f (cond b (Some x) (find u xs))
    at_test true true e rest = refl
    at_test false false e rest = rest
    at_test true false e rest = absurd (let z : ⊥ = cc in z)
    at_test false true e rest = absurd (let z : ⊥ = cc in z)

-- LISTS

pub empty_mapped : {X Y : Type 0} (f : X → Y) (xs : List X) → is_empty (map f xs) ≡ is_empty xs
empty_mapped f [] = refl
empty_mapped f (x ∷ xs) = refl

-- told anew once and again
pub map_twice : {X Y Z : Type 0} (f : X → Y) (g : Y → Z) (h : X → Z) → ((x : X) → g (f x) ≡ h x) → (xs : List X) → map g (map f xs) ≡ map h xs
map_twice f g h e [] = refl
map_twice f g h e (x ∷ xs) = rw (e x, map_twice f g h e xs) refl

-- told alike where a test passes
pub map_agrees : {X Y : Type 0} (f g : X → Y) (t : X → Bool) → ((x : X) → t x ≡ true → f x ≡ g x) → (xs : List X) → list_all t xs ≡ true → map f xs ≡ map g xs
map_agrees f g t h [] e = refl
map_agrees f g t h (x ∷ xs) e = let both = and_true (t x) (list_all t xs) e in rw (h x both.0, map_agrees f g t h xs both.1) refl

-- numbers in a row, told by what stands in a list
pub row_mapped : {X : Type 0} (f : ℕ → X) (xs : List X) (d : X) (a : ℕ) → ((i : ℕ) → i < length xs → f (a + i) ≡ get_or xs i d)
    → map f (range_with_len a (length xs)) ≡ xs
row_mapped f [] d a h = refl
row_mapped {X} f (x ∷ xs) d a h =
    let zero_more : a + 0 ≡ a = omega arith in
    let first : f a ≡ x = ap f (sym zero_more) ∙ h 0 (omega arith) in
    ap (λ (y : X). y ∷ map f (range_with_len (a + 1) (length xs))) first
    ∙ ap (λ (ys : List X). x ∷ ys) (row_mapped f xs d (a + 1) (λ i lt. let one_more : a + 1 + i ≡ a + suc i = omega arith in ap f one_more ∙ h (suc i) (omega (arith, lt))))

-- the lists of new numbers, put together
pub flat_mapped : (f ν : ℕ → ℕ) (h k : ℕ → List ℕ) → ((p : ℕ) → k (f p) ≡ map ν (h p)) → (ps : List ℕ) → flat_map k (map f ps) ≡ map ν (flat_map h ps)
flat_mapped f ν h k e [] = refl
flat_mapped f ν h k e (p ∷ ps) =
    ap (λ (ns : List ℕ). ns ++ flat_map k (map f ps)) (e p)
    ∙ ap (λ (ns : List ℕ). map ν (h p) ++ ns) (flat_mapped f ν h k e ps)
    ∙ sym (map-append ν (h p) (flat_map h ps))

-- NUMBERS THAT RISE

-- new numbers that rise with the old ones are the same where those are
pub rising_same : (f : ℕ → ℕ) → ((a b : ℕ) → a < b → f a < f b) → (a b : ℕ) → (f a == f b) ≡ (a == b)
rising_same f rise a b = elim (cases_Bool (nat_lt a b)) [
  | inl below ↦
      (let l = ltb-true a b below in let u = rise a b l in
      ne_eqb (f a) (f b) (λ e. omega (arith, u, e)) ∙ sym (ne_eqb a b (λ e. omega (arith, l, e))))
  | inr n ↦ elim (cases_Bool (nat_lt b a)) [
    | inl above ↦
        (let l = ltb-true b a above in let u = rise b a l in
        ne_eqb (f a) (f b) (λ e. omega (arith, u, e)) ∙ sym (ne_eqb a b (λ e. omega (arith, l, e))))
    | inr m ↦
        (let le = ltb-false a b n in let ge = ltb-false b a m in let same : a ≡ b = omega (arith, le, ge) in
        eq-eqb (f a) (f b) (ap f same) ∙ sym (eq-eqb a b same))
  ]
]

-- and they do not fall
pub rising_le : (f : ℕ → ℕ) → ((a b : ℕ) → a < b → f a < f b) → (a b : ℕ) → a ≤ b → f a ≤ f b
rising_le f rise a b le = elim (cases_Bool (nat_lt a b)) [
  | inl below ↦ (let u = rise a b (ltb-true a b below) in omega (arith, u))
  | inr n ↦ (let ge = ltb-false a b n in let same : a ≡ b = omega (arith, le, ge) in let e : f a ≡ f b = ap f same in omega (arith, e))
]

-- what rises by one measure rises by another one that follows it
pub rises_by : {X : Type 0} (u v : X → ℕ) (high top : ℕ) → ((x y : X) → u x < u y → v x < v y) → ((x : X) → u x ≤ high → v x ≤ top)
    → (low least : ℕ) → ((x : X) → low < u x → least < v x) → (xs : List X) → rises_within low high (map u xs) ≡ true → rises_within least top (map v xs) ≡ true
rises_by u v high top follow most low least above [] e = refl
rises_by u v high top follow most low least above (x ∷ xs) e =
    let r = rises low high (u x) (map u xs) e in
    rw (lt-ltb least (v x) (above x r.above), le-leb (v x) top (most x r.within)) (rises_by u v high top follow most (u x) (v x) (follow x) xs r.more)

-- numbers told as they are
map_same : (ks : List ℕ) → map (λ (k : ℕ). k) ks ≡ ks
map_same [] = refl
map_same (k ∷ ks) = ap (λ (js : List ℕ). k ∷ js) (map_same ks)

-- so numbers told anew rise
pub rises_mapped : (f : ℕ → ℕ) (low high least top : ℕ) (ns : List ℕ) → ((a b : ℕ) → a < b → f a < f b) → ((k : ℕ) → k ≤ high → f k ≤ top) → ((k : ℕ) → low < k → least < f k)
    → rises_within low high ns ≡ true → rises_within least top (map f ns) ≡ true
rises_mapped f low high least top ns rise most above r = rises_by (λ (k : ℕ). k) f high top rise most low least above ns (subst (λ (ks : List ℕ). rises_within low high ks ≡ true) (sym (map_same ns)) r)

-- what rises by a measure from some bound has it from 1 to the other bound
pub rises_all : {X : Type 0} (u : X → ℕ) (low high : ℕ) (xs : List X) → rises_within low high (map u xs) ≡ true → list_all (λ x. is_between 1 high (u x)) xs ≡ true
rises_all u low high [] e = refl
rises_all u low high (x ∷ xs) e =
    let r = rises low high (u x) (map u xs) e in
    let above = r.above in
    and_from _ _ (and_from (nat_le 1 (u x)) (nat_le (u x) high) (le-leb 1 (u x) (omega (arith, above))) (le-leb (u x) high r.within)) (rises_all u (u x) high xs r.more)

pub rising_all : (low high : ℕ) (ns : List ℕ) → rises_within low high ns ≡ true → list_all (λ n. is_between 1 high n) ns ≡ true
rising_all low high ns r = rises_all (λ (k : ℕ). k) low high ns (subst (λ (ks : List ℕ). rises_within low high ks ≡ true) (sym (map_same ns)) r)

-- of numbers in a row those that pass are among some that rise, if no other one passes
pub only_these : (t : ℕ → Bool) (low n high : ℕ) (ps : List ℕ) → low + n ≡ high → rises_within low high ps ≡ true
    → ((k : ℕ) → low < k → k ≤ high → t k ≡ true → among ps k ≡ true) → filter t (range_with_len (low + 1) n) ≡ filter t ps
only_these t low zero high [] e r h = refl
only_these t low zero high (p ∷ ps) e r h = let s = rises low high p ps r in let a = s.above in let b = s.within in absurd (omega (arith, a, b, e))
only_these t low (suc n) high [] e r h =
    let none : t (low + 1) ≡ false = false_from_ne_true (t (low + 1)) (λ y. let f : false ≡ true = h (low + 1) (omega arith) (omega (arith, e)) y in let z : ⊥ = cc in z) in
    rw none (only_these t (low + 1) n high [] (omega (arith, e)) refl (λ k lt le y. h k (omega (arith, lt)) le y))
only_these t low (suc n) high (p ∷ ps) e r h = elim (cases_Bool (p == low + 1)) [
  | inl here ↦
      (let same = eqb-true p (low + 1) here in
      let s = rises low high p ps r in
      let rest = only_these t (low + 1) n high ps (omega (arith, e)) (subst (λ (q : ℕ). rises_within q high ps ≡ true) same s.more) (λ k lt le y.
      elim (or_true (p == k) (among ps k) (h k (omega (arith, lt)) le y)) [
        | inl is ↦ (let i = eqb-true p k is in absurd (omega (arith, i, same, lt)))
        | inr later ↦ later
      ]) in
      ap (λ (ns : List ℕ). cond (t (low + 1)) ((low + 1) ∷ ns) ns) rest ∙ ap (λ (q : ℕ). cond (t q) (q ∷ filter t ps) (filter t ps)) (sym same))
  | inr other ↦
      (let apart = eqb-false p (low + 1) other in
      let s = rises low high p ps r in let above = s.above in
      let none : t (low + 1) ≡ false = false_from_ne_true (t (low + 1)) (λ y.
      elim (or_true (p == low + 1) (among ps (low + 1)) (h (low + 1) (omega arith) (omega (arith, e)) y)) [
        | inl is ↦ both_ways (p == low + 1) other is
        | inr later ↦ (let b = bounded p high ps (low + 1) s.more later in let l = b.0 in omega (arith, l, above))
      ]) in
      rw none (only_these t (low + 1) n high (p ∷ ps) (omega (arith, e)) (first_above (low + 1) s.more (above_next above apart) s.within) (λ k lt le y. h k (omega (arith, lt)) le y)))
]
  where
    above_next : low < p → (p ≡ low + 1 → ⊥) → low + 1 < p
    above_next lt n = omega (arith, lt, n)

    first_above : (q : ℕ) → rises_within p high ps ≡ true → q < p → p ≤ high → rises_within q high (p ∷ ps) ≡ true
    first_above q more lt le = rw (lt-ltb q p lt, le-leb p high le, more) refl
