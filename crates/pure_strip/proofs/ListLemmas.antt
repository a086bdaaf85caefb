-- What tests keep and find in lists, and the numbers from 1 on.
use Rattle.std.proofs.Common.{◌≡◌, ℕ, ◌+◌, ◌<◌, ◌≤◌, ◌∙◌, Bool, true, false, cond, List, [], ◌∷◌, ◌++◌, get_or, refl, sym, ap, arith, is_some, inl, inr}
use Rattle.std.specs.Prelude.{filter, find}
use Rattle.std.specs.List.{list_any, All}
use Rattle.std.proofs.lemmas.Bool.{cases_Bool}
use Rattle.std.proofs.lemmas.List.{append-nil}
use Rattle.std.proofs.lemmas.List.FromFn.{get_or-range_with_len, length-range_with_len}
use Rattle.lk_model.specs.Lists.{up_to}
use Rattle.occurrence_lists.proofs.FirstPositions.{filter-up_to-more}

-- each of the numbers lies between
pub up_to-bounds : (n : ℕ) → All (λ p. (0 < p) × (p ≤ n)) (up_to n)
up_to-bounds n k d lt =
    let small : k < n = omega (arith, lt, length-range_with_len 1 n) in
    let is : get_or (up_to n) k d ≡ 1 + k = get_or-range_with_len 1 n k d small in
    (omega (arith, is), omega (arith, is, small))

-- the first with both tests
pub find-filter : (s t : ℕ → Bool) (xs : List ℕ) → find s (filter t xs) ≡ find t (filter s xs)
find-filter s t [] = refl
find-filter s t (x ∷ xs) = elim (cases_Bool (s x)) [
  | inl p ↦ elim (cases_Bool (t x)) [ inl q ↦ rw (p, q, p) refl | inr q ↦ rw (p, q) (find-filter s t xs) ]
  | inr p ↦ elim (cases_Bool (t x)) [ inl q ↦ rw (p, q, p) (find-filter s t xs) | inr q ↦ rw (p, q) (find-filter s t xs) ]
]

-- one is found where one passes
pub is_some-find : (test : ℕ → Bool) (xs : List ℕ) → is_some (find test xs) ≡ list_any test xs
is_some-find test [] = refl
is_some-find test (x ∷ xs) = elim (cases_Bool (test x)) [ inl e ↦ rw e refl | inr e ↦ rw e (is_some-find test xs) ]

-- one number more, which the test keeps
pub kept-more : (test : ℕ → Bool) (n : ℕ) (kept : List ℕ) → kept ≡ filter test (up_to n) → test (n + 1) ≡ true → kept ++ (n + 1) ∷ [] ≡ filter test (up_to (n + 1))
kept-more test n kept is e = ap (λ (ks : List ℕ). ks ++ (n + 1) ∷ []) is ∙ sym (filter-up_to-more test n ∙ ap (λ (b : Bool). filter test (up_to n) ++ cond b ((n + 1) ∷ []) []) e)

-- one number more, which it does not keep
pub kept-same : (test : ℕ → Bool) (n : ℕ) (kept : List ℕ) → kept ≡ filter test (up_to n) → test (n + 1) ≡ false → kept ≡ filter test (up_to (n + 1))
kept-same test n kept is e = is ∙ sym (filter-up_to-more test n ∙ ap (λ (b : Bool). filter test (up_to n) ++ cond b ((n + 1) ∷ []) []) e ∙ append-nil (filter test (up_to n)))
