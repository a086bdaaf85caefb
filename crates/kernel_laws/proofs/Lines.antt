-- Lines that are found in lists, and what stands in a list that is mapped.
use Rattle.std.proofs.Common.{◌≡◌, ℕ, zero, suc, ◌∙◌, Bool, true, false, cond, not, ◌||◌, ◌==◌, List, [], ◌∷◌, map, refl, sym, ap, subst, arith, inl, inr, Contains, Option, Some, None}
use Rattle.std.specs.Prelude.{find}
use Rattle.std.specs.List.{list_any}
use Rattle.std.proofs.lemmas.Bool.{both_ways, cond-true, cond-false, eq-eqb, eqb-true, false_from_ne_true}
use Rattle.lk_model.specs.Lists.{among, rises_within}
use Rattle.lk_model.specs.Checks.Check.{line_fails}
use Rattle.lk_model.proofs.Booleans.{or_true, or_false, or_left, or_right}
use Rattle.lk_model.proofs.Rising.{rises, bounded}
use Rattle.lk_model.proofs.Keys.{first_in, later_in, key_among}

-- the image of what stands in a list stands in the mapped one
pub map_in : {X Y : Type 0} (f : X → Y) (xs : List X) (x : X) → Contains xs x → Contains (map f xs) (f x)
map_in f [] x (k, lt, e) = absurd (omega (arith, lt))
map_in f (y ∷ xs) x (zero, lt, e) = subst (λ z. Contains (map f (y ∷ xs)) (f z)) e (first_in (f y) (map f xs))
map_in f (y ∷ xs) x (suc k, lt, e) = later_in (f y) (map f xs) (f x) (map_in f xs x (k, omega (arith, lt), e))

-- what stands in the mapped list is such an image
pub in_map : {X Y : Type 0} (f : X → Y) (xs : List X) (y : Y) → Contains (map f xs) y → (x : X) × Contains xs x × (f x ≡ y)
in_map f [] y (k, lt, e) = absurd (omega (arith, lt))
in_map f (x ∷ xs) y (zero, lt, e) = (x, first_in x xs, e)
in_map f (x ∷ xs) y (suc k, lt, e) = let w = in_map f xs y (k, omega (arith, lt), e) in (w.0, later_in x xs w.0 w.1, w.2)

-- what is found stands in the list
pub found_in : {X : Type 0} (t : X → Bool) (xs : List X) (x : X) → find t xs ≡ Some x → Contains xs x
found_in t [] x e = absurd (let f : ⊥ = cc in f)
found_in t (y ∷ xs) x e = at_test (t y) e (λ r. found_in t xs x r)
  where
    at_test : (b : Bool) → cond b (Some y) (find t xs) ≡ Some x → (find t xs ≡ Some x → Contains xs x) → Contains (y ∷ xs) x
    at_test true r rest = let same : y ≡ x = cc in subst (λ z. Contains (y ∷ xs) z) same (first_in y xs)
    at_test false r rest = later_in y xs x (rest r)

-- where the keys rise, a line is found by its own key
pub found_itself : {X : Type 0} (key : X → ℕ) (low high : ℕ) (xs : List X) (x : X) → rises_within low high (map key xs) ≡ true → Contains xs x
    → find (λ y. key y == key x) xs ≡ Some x
found_itself key low high [] x r (k, lt, e) = absurd (omega (arith, lt))
found_itself key low high (y ∷ xs) x r (zero, lt, e) =
    cond-true (key y == key x) (Some y) (find (λ z. key z == key x) xs) (eq-eqb (key y) (key x) (ap key e)) ∙ ap (λ z. Some z) e
found_itself key low high (y ∷ xs) x r (suc k, lt, e) =
    let there : Contains xs x = (k, omega (arith, lt), e) in
    let s = rises low high (key y) (map key xs) r in
    let b = bounded (key y) high (map key xs) (key x) s.more (key_among key xs x there) in
    let other : (key y == key x) ≡ false = false_from_ne_true (key y == key x) (λ o. let same = eqb-true (key y) (key x) o in omega (arith, same, b.0)) in
    cond-false (key y == key x) (Some y) (find (λ z. key z == key x) xs) other ∙ found_itself key (key y) high xs x s.more there

-- where no line passes a test, one that is there does not
pub fails_in : {X : Type 0} (t : X → Bool) (xs : List X) (x : X) → list_any t xs ≡ false → Contains xs x → t x ≡ false
fails_in t [] x e (k, lt, is) = absurd (omega (arith, lt))
fails_in t (y ∷ xs) x e (zero, lt, is) = ap t (sym is) ∙ (or_false (t y) (list_any t xs) e).0
fails_in t (y ∷ xs) x e (suc k, lt, is) = fails_in t xs x (or_false (t y) (list_any t xs) e).1 (k, omega (arith, lt), is)

-- what finds none fails at each number of the list
pub none_among : (t : ℕ → Bool) (xs : List ℕ) (x : ℕ) → find t xs ≡ None → among xs x ≡ true → t x ≡ false
none_among t [] x e m = absurd (let f : ⊥ = cc in f)
none_among t (y ∷ xs) x e m = at_test (t y) refl e (λ r l. none_among t xs x r l)
  where
    at_test : (b : Bool) → t y ≡ b → cond b (Some y) (find t xs) ≡ None → (find t xs ≡ None → among xs x ≡ true → t x ≡ false) → t x ≡ false
    at_test true s r rest = absurd (let f : ⊥ = cc in f)
    at_test false s r rest = elim (or_true (y == x) (among xs x) m) [
      | inl same ↦ subst (λ k. t k ≡ false) (eqb-true y x same) s
      | inr later ↦ rest r later
    ]

-- what is found passes the test
pub found_passes : {X : Type 0} (t : X → Bool) (xs : List X) (x : X) → find t xs ≡ Some x → t x ≡ true
found_passes t [] x e = absurd (let f : ⊥ = cc in f)
found_passes t (y ∷ xs) x e = at_test (t y) refl e (λ r. found_passes t xs x r)
  where
    at_test : (b : Bool) → t y ≡ b → cond b (Some y) (find t xs) ≡ Some x → (find t xs ≡ Some x → t x ≡ true) → t x ≡ true
    at_test true s r rest = let same : y ≡ x = cc in subst (λ k. t k ≡ true) same s
    at_test false s r rest = rest r

-- and so another test passes in the list that it passes
pub found_any : {X : Type 0} (t q : X → Bool) (xs : List X) (x : X) → find t xs ≡ Some x → q x ≡ true → list_any q xs ≡ true
found_any t q [] x e p = absurd (let f : ⊥ = cc in f)
found_any t q (y ∷ xs) x e p = at_test (t y) refl e (λ r. found_any t q xs x r p)
  where
    at_test : (b : Bool) → t y ≡ b → cond b (Some y) (find t xs) ≡ Some x → (find t xs ≡ Some x → list_any q xs ≡ true) → (q y || list_any q xs) ≡ true
    at_test true s r rest = let same : y ≡ x = cc in or_left (q y) (list_any q xs) (subst (λ k. q k ≡ true) (sym same) p)
    at_test false s r rest = or_right (q y) (list_any q xs) (rest r)

-- a place that wants a line and does not fail has a good one
pub record HasLine {X : Type 0} (line : Option X) (bad : X → Bool) : Type 0 where
  pub value : X
  pub is : line ≡ Some value
  pub good : bad value ≡ false

pub has_line : {X : Type 0} (wanted : Bool) (line : Option X) (bad : X → Bool) → line_fails wanted line bad ≡ false → wanted ≡ true → HasLine line bad
has_line wanted None bad e w = absurd (both_ways wanted e w)
has_line wanted (Some x) bad e w = record { value = x; is = refl; good = (or_false (not wanted) (bad x) e).1 }
