-- What is written over a list.
use Rattle.std.proofs.Common.{◌≡◌, ◌∙◌, ℕ, ◌≤◌, List, ◌++◌, length, take, drop, ap, arith}
use Rattle.std.proofs.lemmas.List.{append-nil, drop_all, take_all}

-- what is written over a whole list
pub whole : {X : Type 0} (n : ℕ) (xs ys : List X) → length xs ≡ n → length ys ≤ length xs
    → take n (xs ++ drop (length xs) ys) ≡ xs
whole n xs ys size short = ap (λ (zs : List _). take n (xs ++ zs)) (drop_all (length xs) ys short) ∙ ap (take n) (append-nil xs) ∙ take_all n xs (omega (arith, size))
