-- The artificial cost, by its columns.
use Rattle.std.proofs.Common.{◌≡◌, ℕ, ◌+◌, ◌-◌, ◌<◌, ◌≤◌, List, [], ◌∷◌, ◌++◌, replicate, length, get_or, ℤ, pos, ap, ◌∙◌, arith}
use Rattle.std.proofs.Math.Seq.{get_or-append_right}
use Rattle.std.proofs.lemmas.List.{get_or_append_left, get_or-replicate, length-append, length-replicate}

-- LISTS IN THREE PARTS

pub in_first : (xs ys zs : List ℤ) (p : ℕ) → p < length xs → get_or (xs ++ ys ++ zs) p (pos 0) ≡ get_or xs p (pos 0)
in_first xs ys zs p h =
    get_or_append_left (xs ++ ys) zs (pos 0) p (omega (arith, h, length-append xs ys)) ∙ get_or_append_left xs ys (pos 0) p h

pub in_middle : (xs ys zs : List ℤ) (p : ℕ) → length xs ≤ p → p < length xs + length ys → get_or (xs ++ ys ++ zs) p (pos 0) ≡ get_or ys (p - length xs) (pos 0)
in_middle xs ys zs p h k =
    get_or_append_left (xs ++ ys) zs (pos 0) p (omega (arith, k, length-append xs ys)) ∙ get_or-append_right xs ys p (pos 0) h

pub in_last : (xs ys zs : List ℤ) (p : ℕ) → length xs + length ys ≤ p → get_or (xs ++ ys ++ zs) p (pos 0) ≡ get_or zs (p - (length xs + length ys)) (pos 0)
in_last xs ys zs p h =
    get_or-append_right (xs ++ ys) zs p (pos 0) (omega (arith, h, length-append xs ys)) ∙ ap (λ n. get_or zs (p - n) (pos 0)) (length-append xs ys)

-- THE ARTIFICIAL COST OF m CLAUSES AND n VARIABLES

abbrev pub artificials : ℕ → ℕ → List ℤ
artificials m n = replicate m (pos 0) ++ replicate (n + 1) (pos 1) ++ pos 0 ∷ []

pub art_first : (m n : ℕ) (p : ℕ) → p < m → get_or (artificials m n) p (pos 0) ≡ pos 0
art_first m n p h = let none = length-replicate {A = ℤ} m (pos 0) in
    in_first (replicate m (pos 0)) (replicate (n + 1) (pos 1)) (pos 0 ∷ []) p (omega (arith, h, none)) ∙ get_or-replicate m p (pos 0) (pos 0) h

pub art_middle : (m n : ℕ) (p : ℕ) → m ≤ p → p < m + n + 1 → get_or (artificials m n) p (pos 0) ≡ pos 1
art_middle m n p h k =
    let none = length-replicate {A = ℤ} m (pos 0) in
    let ones = length-replicate {A = ℤ} (n + 1) (pos 1) in
    in_middle (replicate m (pos 0)) (replicate (n + 1) (pos 1)) (pos 0 ∷ []) p (omega (arith, h, none)) (omega (arith, k, none, ones))
    ∙ get_or-replicate (n + 1) (p - length (replicate m (pos 0))) (pos 1) (pos 0) (omega (arith, h, k, none))

pub art_last : (m n : ℕ) (q p : ℕ) → p ≡ m + n + 1 + q → get_or (artificials m n) p (pos 0) ≡ get_or (pos 0 ∷ []) q (pos 0)
art_last m n q p e =
    let none = length-replicate {A = ℤ} m (pos 0) in
    let ones = length-replicate {A = ℤ} (n + 1) (pos 1) in
    in_last (replicate m (pos 0)) (replicate (n + 1) (pos 1)) (pos 0 ∷ []) p (omega (arith, e, none, ones))
    ∙ ap (λ x. get_or (pos 0 ∷ []) x (pos 0)) (let place : p - (length (replicate m (pos 0)) + length (replicate (n + 1) (pos 1))) ≡ q = omega (arith, e, none, ones) in place)
