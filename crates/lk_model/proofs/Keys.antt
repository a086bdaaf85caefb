-- Lines that are found by a key, and tests that each line of a list passes or fails.
use Rattle.std.proofs.Common.{◌≡◌, ℕ, zero, suc, ◌∙◌, Bool, true, false, ◌||◌, List, [], ◌∷◌, map, refl, sym, ap, arith, Some, None, inl, inr, Contains}
use Rattle.std.specs.Prelude.{find, ◌==◌}
use Rattle.std.specs.List.{list_any, list_all}
use Rattle.std.proofs.lemmas.Bool.{cases_Bool, cond-true, cond-false, eqb-true, eq-eqb}
use Rattle.lk_model.specs.Lists.{among}
use Rattle.lk_model.proofs.Booleans.{or_false, or_left, or_right}

pub first_in : {X : Type 0} (x : X) (xs : List X) → Contains (x ∷ xs) x
first_in x xs = (0, omega arith, refl)

pub later_in : {X : Type 0} (y : X) (xs : List X) (x : X) → Contains xs x → Contains (y ∷ xs) x
later_in y xs x (k, lt, e) = (suc k, omega (arith, lt), e)

-- the first line with the key
pub record HasKey {X : Type 0} (key : X → ℕ) (xs : List X) (v : ℕ) : Type 0 where
  pub value : X
  pub is : find (λ x. key x == v) xs ≡ Some value
  pub there : Contains xs value
  pub at : key value ≡ v

pub key_found : {X : Type 0} (key : X → ℕ) (xs : List X) (v : ℕ) → among (map key xs) v ≡ true → HasKey key xs v
key_found key [] v e = absurd (let f : ⊥ = cc in f)
key_found key (x ∷ xs) v e = elim (cases_Bool (key x == v)) [
  | inl y ↦ record { value = x; is = cond-true (key x == v) (Some x) (find (λ x. key x == v) xs) y; there = first_in x xs; at = eqb-true (key x) v y }
  | inr y ↦
      let r = key_found key xs v (sym (ap (λ (b : Bool). b || among (map key xs) v) y) ∙ e) in
      record {
        value = r.value;
        is = cond-false (key x == v) (Some x) (find (λ x. key x == v) xs) y ∙ r.is;
        there = later_in x xs r.value r.there;
        at = r.at;
      }
]

pub key_missing : {X : Type 0} (key : X → ℕ) (xs : List X) (v : ℕ) → among (map key xs) v ≡ false → find (λ x. key x == v) xs ≡ None
key_missing key [] v e = refl
key_missing key (x ∷ xs) v e =
    let both = or_false (key x == v) (among (map key xs) v) e in
    cond-false (key x == v) (Some x) (find (λ x. key x == v) xs) both.0 ∙ key_missing key xs v both.1

-- the key of a line is among the keys
pub key_among : {X : Type 0} (key : X → ℕ) (xs : List X) (x : X) → Contains xs x → among (map key xs) (key x) ≡ true
key_among key [] x (k, lt, e) = absurd (omega (arith, lt))
key_among key (y ∷ xs) x (zero, lt, e) = or_left (key y == key x) _ (eq-eqb (key y) (key x) (ap key e))
key_among key (y ∷ xs) x (suc k, lt, e) = or_right (key y == key x) _ (key_among key xs x (k, omega (arith, lt), e))

pub none_passes : {X : Type 0} (t : X → Bool) (xs : List X) → ((x : X) → Contains xs x → t x ≡ false) → list_any t xs ≡ false
none_passes t [] h = refl
none_passes t (x ∷ xs) h = rw (h x (first_in x xs), none_passes t xs (λ y c. h y (later_in x xs y c))) refl

pub each_passes : {X : Type 0} (t : X → Bool) (xs : List X) → ((x : X) → Contains xs x → t x ≡ true) → list_all t xs ≡ true
each_passes t [] h = refl
each_passes t (x ∷ xs) h = rw (h x (first_in x xs), each_passes t xs (λ y c. h y (later_in x xs y c))) refl
