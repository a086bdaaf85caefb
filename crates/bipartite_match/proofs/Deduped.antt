-- Numbers that were sorted, and each of which was kept once.
use Rattle.std.proofs.Common.{◌≡◌, nat_eq, ℕ, suc, ◌<◌, ◌≤◌, Bool, true, false, cond, ◌||◌, ◌==◌, List, [], ◌∷◌, refl, sym, ◌∙◌, subst, arith}
use Rattle.std.specs.List.{dedup, dedup_from, AllPairs}
use Rattle.std.specs.List.Sorted.{IsSorted, IsPermutation}
use Rattle.std.specs.Ordering.{nat_cmp}
use Rattle.std.proofs.lemmas.Bool.{lt-ltb, le-leb, eqb-true}
use Rattle.std.proofs.lemmas.List.Kept.{AllPairs-from_increasing}
use Rattle.std.proofs.lemmas.List.Sorted.{list_any-IsPermutation}
use Rattle.std.proofs.lemmas.Map.Keys.{IsStrictlyIncreasing-dedup}
use Rattle.lk_model.specs.Lists.{among, rises_within}
use Rattle.lk_model.proofs.Lists.{among_here, among_later, place_of}

among_deduped_from : (n : ℕ) (ns : List ℕ) (k : ℕ) → among (dedup_from nat_eq n ns) k ≡ among (n ∷ ns) k
among_deduped_from n [] k = refl
among_deduped_from n (m ∷ ns) k = at (nat_eq m n) refl (among_deduped_from n ns k) (among_deduped_from m ns k)
  where
    twice : (a b : Bool) → (a || (a || b)) ≡ (a || b)
    twice true b = refl
    twice false b = refl

    at : (b : Bool) → nat_eq m n ≡ b → among (dedup_from nat_eq n ns) k ≡ among (n ∷ ns) k → among (dedup_from nat_eq m ns) k ≡ among (m ∷ ns) k
        → among (cond b (dedup_from nat_eq n ns) (n ∷ dedup_from nat_eq m ns)) k ≡ among (n ∷ m ∷ ns) k
    at true e f g = rw (f, eqb-true m n e) (sym (twice (n == k) (among ns k)))
    at false e f g = rw g refl

among_deduped : (ns : List ℕ) (k : ℕ) → among (dedup nat_eq ns) k ≡ among ns k
among_deduped [] k = refl
among_deduped (n ∷ ns) k = among_deduped_from n ns k

-- they are the same numbers
pub deduped_same : (ns sorted : List ℕ) (k : ℕ) → IsPermutation ns sorted → among (dedup nat_eq sorted) k ≡ among ns k
deduped_same ns sorted k permuted = among_deduped sorted k ∙ sym (list_any-IsPermutation (λ n. n == k) ns sorted permuted)

-- numbers of which each is below all later ones, between two bounds
pairs_rise : (low high : ℕ) (ns : List ℕ) → AllPairs (λ x y. x < y) ns → ((k : ℕ) → among ns k ≡ true → (low < k) × (k ≤ high)) → rises_within low high ns ≡ true
pairs_rise low high [] pairs bounds = refl
pairs_rise low high (n ∷ ns) pairs bounds =
    let here = bounds n (among_here n ns) in
    rw (lt-ltb low n here.0, le-leb n high here.1, pairs_rise n high ns later later_bounds) refl
  where
    later : AllPairs (λ x y. x < y) ns
    later i j d lt within = pairs (suc i) (suc j) d (omega (arith, lt)) (omega (arith, within))

    later_bounds : (k : ℕ) → among ns k ≡ true → (n < k) × (k ≤ high)
    later_bounds k m =
        let w = place_of ns k m in
        let lt = w.1 in
        (subst (λ (j : ℕ). n < j) w.2 (pairs 0 (suc w.0) 0 (omega arith) (omega (arith, lt))), (bounds k (among_later n k ns m)).1)

-- they rise
pub deduped_rises : (high : ℕ) (ns sorted : List ℕ) → IsPermutation ns sorted → IsSorted nat_cmp sorted → ((k : ℕ) → among ns k ≡ true → (0 < k) × (k ≤ high))
    → rises_within 0 high (dedup nat_eq sorted) ≡ true
deduped_rises high ns sorted permuted up bounds =
    pairs_rise 0 high (dedup nat_eq sorted) (AllPairs-from_increasing (dedup nat_eq sorted) (IsStrictlyIncreasing-dedup sorted up)) (λ k m. bounds k (sym (deduped_same ns sorted k permuted) ∙ m))
