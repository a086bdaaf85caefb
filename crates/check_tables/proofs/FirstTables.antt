-- Lines whose numbers rise, and the first one with a key.
use Rattle.std.proofs.Common.{◌≡◌, ◌∙◌, ℕ, ◌+◌, ◌≤◌, Bool, true, false, ◌&&◌, List, [], ◌∷◌, map, refl, sym, ap, arith, Option, Some, None, inl, inr}
use Rattle.std.specs.Prelude.{find, ◌==◌, nat_lt}
use Rattle.std.specs.List.{list_any, list_all}
use Rattle.std.specs.Option.{option_map_or}
use Rattle.std.proofs.lemmas.Bool.{cases_Bool, ltb-false, le-ltb}
use Rattle.lk_model.specs.Lists.{rises_within}
use Rattle.lk_model.proofs.Booleans.{and_true}
use Rattle.lk_model.proofs.Rising.{rises}

-- LINES WHOSE NUMBERS RISE

-- none has a number below the lower bound
none_less : {X : Type 0} (number : X → ℕ) (t : X → Bool) (low high : ℕ) (xs : List X) (v : ℕ) → rises_within low high (map number xs) ≡ true → v ≤ low + 1
    → list_any (λ (x : X). nat_lt (number x) v && t x) xs ≡ false
none_less number t low high [] v up le = refl
none_less number t low high (x ∷ xs) v up le =
    let r = rises low high (number x) (map number xs) up in
    rw (le-ltb (number x) v (omega (arith, r.above, le))) (none_less number t (number x) high xs v r.more (omega (arith, r.above, le)))

-- a line with a lesser number has the key exactly where the first one with the key has a lesser number
pub earlier_is : {X : Type 0} (number key : X → ℕ) (low high : ℕ) (xs : List X) (k v last : ℕ) → rises_within low high (map number xs) ≡ true → v ≤ last
    → list_any (λ (x : X). nat_lt (number x) v && key x == k) xs ≡ nat_lt (option_map_or number (find (λ (x : X). key x == k) xs) last) v
earlier_is number key low high [] k v last up le = sym (le-ltb last v le)
earlier_is number key low high (x ∷ xs) k v last up le =
    let r = rises low high (number x) (map number xs) up in
    elim (cases_Bool (key x == k)) [
      | inl y ↦ elim (cases_Bool (nat_lt (number x) v)) [
        | inl less ↦ rw (y, less) refl
        | inr more ↦ rw (y, more) (none_less number (λ x. key x == k) (number x) high xs v r.more (omega (arith, ltb-false (number x) v more)))
      ]
      | inr n ↦ elim (cases_Bool (nat_lt (number x) v)) [
        | inl less ↦ rw (n, less) (earlier_is number key (number x) high xs k v last r.more le)
        | inr more ↦ rw (n, more) (earlier_is number key (number x) high xs k v last r.more le)
      ]
    ]

-- what each line passes, one that is found passes
pub found_passes : {X : Type 0} (s t : X → Bool) (xs : List X) (x : X) → list_all s xs ≡ true → find t xs ≡ Some x → s x ≡ true
found_passes s t [] x all e = absurd (let f : ⊥ = cc in f)
found_passes s t (y ∷ ys) x all e =
    let both = and_true (s y) (list_all s ys) all in
    elim (cases_Bool (t y)) [
      | inl there ↦ (let same : y ≡ x = cc (rw there at e) in ap s (sym same) ∙ both.0)
      | inr gone ↦ found_passes s t ys x both.1 (rw gone at e)
    ]

-- an option, with nothing in place of nothing
pub map_same : {X : Type 0} (o : Option X) → option_map_or (λ (x : X). Some x) o None ≡ o
map_same None = refl
map_same (Some x) = refl
