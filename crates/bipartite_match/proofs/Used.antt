-- The indices of a list that have a number other than 0.
use Rattle.std.proofs.Common.{ℕ, not, ◌==◌, List, length, get_or, filter, ◌≡◌, ◌≢◌, Bool, true, false, refl, ap, arith, count_by}
use Rattle.std.proofs.lemmas.Bool.{eqb-true, eq-eqb, both_ways}
use Rattle.std.specs.List.{range_with_len}
use Rattle.lk_model.specs.Lists.{among}
use Rattle.lk_model.proofs.Counting.{in_filter, among-range, from_filter}
use Rattle.bipartite_match.proofs.Numbers.{within, count_by_index}

-- the indices with a number other than 0
unfoldable pub used : List ℕ → List ℕ
used xs = filter (λ i. not (get_or xs i 0 == 0)) (range_with_len 0 (length xs))

pub is_used : (x : ℕ) → x ≢ 0 → not (x == 0) ≡ true
is_used x n = at_test (x == 0) refl
  where
    at_test : (b : Bool) → (x == 0) ≡ b → not b ≡ true
    at_test true e = absurd (n (eqb-true x 0 e))
    at_test false e = refl

pub not_zero : (x : ℕ) → not (x == 0) ≡ true → x ≢ 0
not_zero x e s = both_ways (not (x == 0)) (ap not (eq-eqb x 0 s)) e

pub in_used : (xs : List ℕ) (i : ℕ) → get_or xs i 0 ≢ 0 → among (used xs) i ≡ true
unfolding used
in_used xs i n = let w = within xs i n in
    in_filter (λ i. not (get_or xs i 0 == 0)) (range_with_len 0 (length xs)) i (is_used (get_or xs i 0) n)
    (among-range 0 (length xs) i (omega arith) (omega (arith, w)))

pub from_used : (xs : List ℕ) (i : ℕ) → among (used xs) i ≡ true → get_or xs i 0 ≢ 0
unfolding used
from_used xs i m = not_zero (get_or xs i 0) (from_filter (λ i. not (get_or xs i 0 == 0)) (range_with_len 0 (length xs)) i m).0

pub length-used : (xs : List ℕ) → length (used xs) ≡ count_by (λ v. not (v == 0)) xs
unfolding used
length-used xs = count_by_index (λ v. not (v == 0)) (λ i. not (get_or xs i 0 == 0)) 0 xs (λ i h. ap (λ k. not (get_or xs k 0 == 0)) (omega arith))
