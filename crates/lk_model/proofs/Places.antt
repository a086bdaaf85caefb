-- Places of numbers in lists that rise.
use Rattle.std.proofs.Common.{◌≡◌, get_or, ℕ, ◌<◌, ◌≤◌, Bool, true, false, List, refl, arith, length, nat_lt, Err}
use Rattle.std.proofs.lemmas.Bool.{ltb-true, ltb-false}
use Rattle.std.proofs.lemmas.List.Sorted.{searched}
use Rattle.std.specs.Ordering.{nat_cmp}
use Rattle.std.specs.List.Sorted.{IsBinarySearchResult}
use Rattle.lk_model.specs.Lists.{among, rises_within}
use Rattle.lk_model.proofs.Lists.{place_of}
use Rattle.lk_model.proofs.Rising.{in_order}

-- a number that stands in the list is found
pub never_missing : (high : ℕ) (names : List ℕ) (name place : ℕ) → rises_within 0 high names ≡ true → among names name ≡ true
    → IsBinarySearchResult (λ y. nat_cmp y name) names (Err place) → ⊥
never_missing high names name place ascend there result =
    let w = place_of names name there in
    let missing = searched names name (Err place) result (λ i j le lt. in_order 0 high names i j ascend le lt) in
    at w.0 w.1 w.2 missing.1 missing.2 (nat_lt w.0 place) refl
  where
    at : (i : ℕ) → i < length names → get_or names i 0 ≡ name → ((k : ℕ) → k < place → get_or names k 0 < name)
        → ((k : ℕ) → place ≤ k → k < length names → name < get_or names k 0) → (b : Bool) → nat_lt i place ≡ b → ⊥
    at i lt is low high true e = (let below = low i (ltb-true i place e) in omega (arith, below, is))
    at i lt is low high false e = (let above = high i (ltb-false i place e) lt in omega (arith, above, is))
