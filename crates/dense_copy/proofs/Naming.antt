-- The variables of a part, sorted and each once.
use Rattle.std.proofs.Common.{◌≡◌, nat_eq, ℕ, suc, ◌<◌, ◌≤◌, Bool, true, false, cond, ◌||◌, ◌==◌, List, [], ◌∷◌, map, refl, sym, ◌∙◌, ap, subst, arith}
use Rattle.std.specs.List.{dedup, dedup_from, AllPairs}
use Rattle.std.specs.List.Sorted.{IsSorted, IsPermutation}
use Rattle.std.specs.Ordering.{nat_cmp}
use Rattle.std.proofs.lemmas.Bool.{lt-ltb, le-leb, eqb-true}
use Rattle.std.proofs.lemmas.List.Folds.{list_any-append}
use Rattle.std.proofs.lemmas.List.Kept.{AllPairs-from_increasing}
use Rattle.std.proofs.lemmas.List.Sorted.{list_any-IsPermutation}
use Rattle.std.proofs.lemmas.Map.Keys.{IsStrictlyIncreasing-dedup}
use Rattle.lk_model.specs.Lists.{among, rises_within}
use Rattle.lk_model.specs.Formulas.Literal.{variable, mentions}
use Rattle.lk_model.specs.Formulas.Formula.{Cnf, is_formula, clause_at, variable_occurs}
use Rattle.lk_model.proofs.Lists.{among_here, among_later, place_of}
use Rattle.lk_model.proofs.Variables.{position_with, variable_bound, among_variables}
use Rattle.dense_copy.specs.Names.{AreInOrder, AreNames, variables_of}

-- THE VARIABLES AS THEY COME

-- the variables of some clauses are those that occur there
among_all : (F : Cnf) (part : List ℕ) (v : ℕ) → among (variables_of F part) v ≡ variable_occurs F part v
among_all F [] v = refl
among_all F (p ∷ part) v =
    list_any-append (λ k. k == v) (map variable (clause_at F p)) (variables_of F part)
    ∙ ap (λ (b : Bool). b || among (variables_of F part) v) (among_variables (clause_at F p) v)
    ∙ ap (λ (b : Bool). mentions (clause_at F p) v || b) (among_all F part v)

-- SORTED, AND EACH ONCE

among_deduped_from : (n : ℕ) (ns : List ℕ) (k : ℕ) → among (dedup_from nat_eq n ns) k ≡ among (n ∷ ns) k
among_deduped_from n [] k = refl
among_deduped_from n (m ∷ ns) k = at (nat_eq m n) refl (among_deduped_from n ns k) (among_deduped_from m ns k)
  where
    twice : (a b : Bool) → (a || (a || b)) ≡ (a || b)
    twice true b = refl
    twice false b = refl

    at : (b : Bool) → nat_eq m n ≡ b → among (dedup_from nat_eq n ns) k ≡ among (n ∷ ns) k → among (dedup_from nat_eq m ns) k ≡ among (m ∷ ns) k
        → among (cond b (dedup_from nat_eq n ns) (n ∷ dedup_from nat_eq m ns)) k ≡ among (n ∷ m ∷ ns) k
    at true e f g = rw (f, eqb-true m n e) (sym (twice (n == k) (among ns k)))
    at false e f g = rw g refl

among_deduped : (ns : List ℕ) (k : ℕ) → among (dedup nat_eq ns) k ≡ among ns k
among_deduped [] k = refl
among_deduped (n ∷ ns) k = among_deduped_from n ns k

-- numbers of which each is below all later ones, between two bounds
pairs_rise : (low high : ℕ) (ns : List ℕ) → AllPairs (λ x y. x < y) ns → ((k : ℕ) → among ns k ≡ true → (low < k) × (k ≤ high)) → rises_within low high ns ≡ true
pairs_rise low high [] pairs bounds = refl
pairs_rise low high (n ∷ ns) pairs bounds =
    let here = bounds n (among_here n ns) in
    rw (lt-ltb low n here.0, le-leb n high here.1, pairs_rise n high ns later later_bounds) refl
  where
    later : AllPairs (λ x y. x < y) ns
    later i j d lt within = pairs (suc i) (suc j) d (omega (arith, lt)) (omega (arith, within))

    later_bounds : (k : ℕ) → among ns k ≡ true → (n < k) × (k ≤ high)
    later_bounds k m =
        let w = place_of ns k m in
        let lt = w.1 in
        (subst (λ (j : ℕ). n < j) w.2 (pairs 0 (suc w.0) 0 (omega arith) (omega (arith, lt))), (bounds k (among_later n k ns m)).1)

pub in_order : (numbers sorted rising : List ℕ) → IsPermutation numbers sorted → IsSorted nat_cmp sorted → rising ≡ dedup nat_eq sorted → AreInOrder numbers rising
in_order numbers sorted rising permuted up e = subst (AreInOrder numbers) (sym e) (record {
  same = same;
  rise = λ low high bounds. pairs_rise low high (dedup nat_eq sorted) (AllPairs-from_increasing (dedup nat_eq sorted) (IsStrictlyIncreasing-dedup sorted up))
      (λ k m. bounds k (sym (same k) ∙ m));
})
  where
    same : (k : ℕ) → among (dedup nat_eq sorted) k ≡ among numbers k
    same k = among_deduped sorted k ∙ sym (list_any-IsPermutation (λ n. n == k) numbers sorted permuted)

-- and so do the variables of a part
pub names_from : (F : Cnf) (part names : List ℕ) → is_formula F ≡ true → AreInOrder (variables_of F part) names → AreNames F part names
names_from F part names formula order = record {
  ascend = order.rise 0 F.vars (λ v m. let w = position_with F part v (sym (among_all F part v) ∙ m) in variable_bound F w.0 v formula w.2);
  occur = λ v. order.same v ∙ among_all F part v;
}
