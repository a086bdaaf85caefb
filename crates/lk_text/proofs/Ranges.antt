-- Tests of the bytes in a range.
use Rattle.std.proofs.Common.{◌≡◌, ℕ, ◌+◌, ◌-◌, ◌<◌, ◌≤◌, ◌∙◌, Bool, true, false, not, ◌&&◌, ◌==◌, inl, inr, List, length, take, drop, get_or, ap, arith, length-drop}
use Rattle.std.specs.Prelude.{slice_range}
use Rattle.std.specs.List.{list_all}
use Rattle.std.proofs.lemmas.List.{get_or-drop}
use Rattle.std.proofs.lemmas.List.Folds.{list_all_more, list_all_at}
use Rattle.std.proofs.lemmas.Bool.{cases_Bool, eqb-true}

-- one byte more, which passes
pub range-more : (p : ℕ → Bool) (xs : List ℕ) (a i : ℕ) → a ≤ i → i < length xs → list_all p (slice_range xs a i) ≡ true → p (get_or xs i 0) ≡ true → list_all p (slice_range xs a (i + 1)) ≡ true
range-more p xs a i low high before here =
    let size : i + 1 - a ≡ (i - a) + 1 = omega (arith, low) in
    let place : a + (i - a) ≡ i = omega (arith, low) in
    let within : i - a < length (drop a xs) = omega (arith, length-drop a xs, low, high) in
    let read : get_or (drop a xs) (i - a) 0 ≡ get_or xs i 0 = get_or-drop a xs (i - a) 0 ∙ ap (λ (n : ℕ). get_or xs n 0) place in
    ap (λ (n : ℕ). list_all p (take n (drop a xs))) size
    ∙ list_all_more p (drop a xs) (i - a) 0 within
    ∙ ap (λ (b : Bool). b && p (get_or (drop a xs) (i - a) 0)) before
    ∙ ap p read ∙ here

-- another number
pub not_eq : (x y : ℕ) → (x ≡ y → ⊥) → not (x == y) ≡ true
not_eq x y other = elim (cases_Bool (x == y)) [ inl e ↦ absurd (other (eqb-true x y e)) | inr e ↦ ap not e ]

-- where one byte of the rest fails, not all pass
pub rest_fails : (p : ℕ → Bool) (xs : List ℕ) (a i : ℕ) → a ≤ i → i < length xs → p (get_or xs i 0) ≡ false → list_all p (drop a xs) ≡ true → ⊥
rest_fails p xs a i low high fails all =
    let place : a + (i - a) ≡ i = omega (arith, low) in
    let within : i - a < length (drop a xs) = omega (arith, length-drop a xs, low, high) in
    let read : get_or (drop a xs) (i - a) 0 ≡ get_or xs i 0 = get_or-drop a xs (i - a) 0 ∙ ap (λ (n : ℕ). get_or xs n 0) place in
    cc (all, list_all_at p (drop a xs) (i - a) 0 within (ap p read ∙ fails))
