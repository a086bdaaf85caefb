-- Lists with one more item, or with another item at one place.
use Rattle.std.proofs.Common.{◌≡◌, ◌≢◌, ◌∙◌, ℕ, ◌<◌, Bool, true, false, ◌==◌, List, [], ◌∷◌, ◌++◌, get_or, set, length, refl, sym, subst, ◌⊎◌, inl, inr, get_or-set_same, get_or-set_other}
use Rattle.std.specs.List.{list_any}
use Rattle.std.proofs.lemmas.Bool.{eqb-true, eq-eqb}
use Rattle.std.proofs.lemmas.List.Folds.{list_any-append}
use Rattle.lk_model.proofs.Booleans.{or_true, or_left, or_right}

-- TESTS OVER A LIST WITH ONE MORE ITEM

-- an item that passes is still there
pub any_push_left : {X : Type 0} (t : X → Bool) (xs : List X) (x : X) → list_any t xs ≡ true → list_any t (xs ++ x ∷ []) ≡ true
any_push_left t xs x e = list_any-append t xs (x ∷ []) ∙ or_left (list_any t xs) (list_any t (x ∷ [])) e

-- the last one passes
pub any_push_here : {X : Type 0} (t : X → Bool) (xs : List X) (x : X) → t x ≡ true → list_any t (xs ++ x ∷ []) ≡ true
any_push_here t xs x e = list_any-append t xs (x ∷ []) ∙ or_right (list_any t xs) (list_any t (x ∷ [])) (or_left (t x) false e)

-- one that passes is an earlier one or the last
pub any_push_cases : {X : Type 0} (t : X → Bool) (xs : List X) (x : X) → list_any t (xs ++ x ∷ []) ≡ true → (list_any t xs ≡ true) ⊎ (t x ≡ true)
any_push_cases t xs x e = elim (or_true (list_any t xs) (list_any t (x ∷ [])) (sym (list_any-append t xs (x ∷ [])) ∙ e)) [
  | inl earlier ↦ inl earlier
  | inr last ↦ elim (or_true (t x) false last) [ inl here ↦ inr here | inr never ↦ absurd (let f : ⊥ = cc in f) ]
]

-- a number is itself
pub same_number : (p : ℕ) → (p == p) ≡ true
same_number p = eq-eqb p p refl

-- the element that is written
pub record IsWritten {X : Type 0} (xs ys : List X) (k : ℕ) (y : X) (d : X) (i : ℕ) : Type 0 where
  pub here : i ≡ k
  pub is : get_or ys i d ≡ y

-- another element
pub record IsOther {X : Type 0} (xs ys : List X) (k : ℕ) (d : X) (i : ℕ) : Type 0 where
  pub away : i ≢ k
  pub is : get_or ys i d ≡ get_or xs i d

-- what is read after a write
pub written : {X : Type 0} (xs : List X) (k : ℕ) (y d : X) (i : ℕ) → k < length xs → IsWritten xs (set xs k y) k y d i ⊎ IsOther xs (set xs k y) k d i
written xs k y d i lt = at_test (i == k) refl
  where
    at_test : (b : Bool) → (i == k) ≡ b → IsWritten xs (set xs k y) k y d i ⊎ IsOther xs (set xs k y) k d i
    at_test true e =
        let s = eqb-true i k e in
        inl (record { here = s; is = subst (λ (n : ℕ). get_or (set xs k y) n d ≡ y) (sym s) (get_or-set_same xs k y d lt) })
    at_test false e =
        let n : i ≢ k = λ s. (let t : true ≡ false = sym (eq-eqb i k s) ∙ e in let f : ⊥ = cc in f) in
        inr (record { away = n; is = get_or-set_other xs k i y d n })
