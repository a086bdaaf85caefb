-- A matching with a cover is maximum.
use Rattle.std.proofs.Common.{◌≡◌, ◌≢◌, ℕ, ◌+◌, ◌-◌, ◌<◌, ◌≤◌, Bool, true, false, cond, not, ◌==◌, List, [], ◌∷◌, zero, suc, length, get_or, refl, sym, ◌∙◌, ap, subst, arith, ◌⊎◌, inl, inr, IsTrue}
use Rattle.std.specs.List.{range_with_len}
use Rattle.std.proofs.lemmas.Bool.{eqb-true, eq-eqb, both_ways}
use Rattle.lk_model.specs.Lists.{among, rises_within}
use Rattle.lk_model.proofs.Lists.{place_of}
use Rattle.lk_model.proofs.Rising.{rises, rising_bounds}
use Rattle.lk_model.specs.Formulas.Formula.{Cnf, is_formula}
use Rattle.lk_model.specs.Formulas.Lean.{are_positions}
use Rattle.lk_model.proofs.Counting.{Differ-filter, Differ-range, no_more}
use Rattle.lk_model.proofs.Variables.{variable_bound}
use Rattle.bipartite_match.specs.declared.matching.Matching.{Matching}
use Rattle.bipartite_match.specs.Matchings.{IsMatching, pair_count}
use Rattle.bipartite_match.specs.Covers.{IsCover, CoverLaw}
use Rattle.bipartite_match.proofs.Numbers.{rising_once}
use Rattle.bipartite_match.proofs.Owning.{index_within, some_position}
use Rattle.bipartite_match.proofs.Koenig.{maximum_has_cover}
use Rattle.bipartite_match.proofs.Used.{used, in_used, from_used, length-used}

-- the index of a position
index_in : List ℕ → ℕ → ℕ
index_in [] p = 0
index_in (x ∷ xs) p = cond (x == p) 0 (suc (index_in xs p))

index_is : (low high : ℕ) (xs : List ℕ) (i p : ℕ) → rises_within low high xs ≡ true → i < length xs → get_or xs i 0 ≡ p → index_in xs p ≡ i
unfolding index_in
index_is low high [] i p r l e = absurd (omega (arith, l))
index_is low high (x ∷ xs) zero p r l e = ap (λ b. cond b 0 (suc (index_in xs p))) (eq-eqb x p e)
index_is low high (x ∷ xs) (suc i) p r l e =
    let s = rises low high x xs r in let b = (rising_bounds x high xs i s.more (omega (arith, l))).0 in
    at_test (x == p) refl (omega (arith, b, e)) (index_is x high xs i p s.more (omega (arith, l)) e)
  where
    at_test : (b : Bool) → (x == p) ≡ b → x < p → index_in xs p ≡ i → cond b 0 (suc (index_in xs p)) ≡ suc i
    at_test true t a h = absurd (let f = eqb-true x p t in omega (arith, f, a))
    at_test false t a h = ap suc h

partner : List ℕ → Matching → List ℕ → List ℕ → ℕ → ℕ
partner part m R other i = cond (among R (get_or part i 0)) (index_in part (get_or m.of_var (get_or other i 0 - 1) 0)) i

-- A clause outside the set has a variable. So each pair of another matching has a clause of this one, and no two have the same.
record Case (part : List ℕ) (m : Matching) (R : List ℕ) (v i p : ℕ) : Type 0 where
  used_is : get_or m.of_clause p 0 ≢ 0
  which : ((among R (get_or part i 0) ≡ true) × (among R (get_or part p 0) ≡ true) × (get_or m.of_clause p 0 ≡ v)) ⊎ ((among R (get_or part i 0) ≡ false) × (p ≡ i))

case_of : (F : Cnf) (part : List ℕ) (m : Matching) (R : List ℕ) (other : Matching) (i : ℕ) → IsTrue (is_formula F) → are_positions F part ≡ true → IsMatching F part m → IsCover F part m R
    → IsMatching F part other → get_or other.of_clause i 0 ≢ 0 → Case part m R (get_or other.of_clause i 0) i (partner part m R other.of_clause i)
unfolding partner
case_of F part m R other i form r h c o n = at_test (among R (get_or part i 0)) refl
  where
    v : ℕ
    v = get_or other.of_clause i 0

    inside : i < length part
    inside = index_within F part other i o n

    at_test : (b : Bool) → among R (get_or part i 0) ≡ b → Case part m R (get_or other.of_clause i 0) i (cond b (index_in part (get_or m.of_var (get_or other.of_clause i 0 - 1) 0)) i)
    at_test true e =
        let there = c.closed (get_or part i 0) v e (o.joined i n) in
        let some = (variable_bound F (get_or part i 0) v form (o.joined i n)).0 in
        let q = place_of part (get_or m.of_var (v - 1) 0) (c.within (get_or m.of_var (v - 1) 0) there) in
        let w = h.held (v - 1) (λ z. some_position F part q.0 r q.1 (q.2 ∙ z)) in
        let back : get_or m.of_clause w.0 0 ≡ v = w.2 ∙ (let g : v - 1 + 1 ≡ v = omega (arith, some) in g) in
        let l = index_within F part m w.0 h (λ z. let g = sym back ∙ z in omega (arith, g, some)) in
        let is = index_is 0 (length F.clauses) part w.0 (get_or m.of_var (v - 1) 0) r l w.1 in
        let own : get_or m.of_clause (index_in part (get_or m.of_var (v - 1) 0)) 0 ≡ v = ap (λ k. get_or m.of_clause k 0) is ∙ back in
        record {
          used_is = λ z. n (sym own ∙ z);
          which = inl (e, subst (λ p. among R p ≡ true) (sym (ap (λ k. get_or part k 0) is ∙ w.1)) there, own);
        }
    at_test false e = record {
      used_is = λ z. both_ways _ e (c.unmatched (get_or part i 0) (record { index = i; inside = inside; is = refl; none = z }));
      which = inr (e, refl);
    }

covered : (F : Cnf) (part : List ℕ) (m : Matching) (R : List ℕ) (other : Matching) → IsTrue (is_formula F) → are_positions F part ≡ true → IsMatching F part m → IsCover F part m R
    → IsMatching F part other → pair_count other ≤ pair_count m
unfolding used
covered F part m R other form r h c o =
    let shorter = no_more (partner part m R other.of_clause) (used other.of_clause) (used m.of_clause)
    (Differ-filter (λ i. not (get_or other.of_clause i 0 == 0)) (range_with_len 0 (length other.of_clause)) (Differ-range 0 (length other.of_clause)))
    (record { into = λ i u. in_used m.of_clause (partner part m R other.of_clause i) (case i u).used_is; one = one }) in
    omega (arith, shorter, length-used other.of_clause, length-used m.of_clause)
  where
    case : (i : ℕ) → among (used other.of_clause) i ≡ true → Case part m R (get_or other.of_clause i 0) i (partner part m R other.of_clause i)
    case i u = case_of F part m R other i form r h c o (from_used other.of_clause i u)

    -- a variable of the other matching has one clause
    once : (i j : ℕ) → among (used other.of_clause) i ≡ true → among (used other.of_clause) j ≡ true
        → get_or other.of_clause i 0 ≡ get_or other.of_clause j 0 → i ≡ j
    once i j u w e =
        let n = from_used other.of_clause i u in
        let k = from_used other.of_clause j w in
        rising_once 0 (length F.clauses) part i j r (index_within F part other i o n) (index_within F part other j o k)
        (sym (o.paired i n) ∙ ap (λ v. get_or other.of_var (v - 1) 0) e ∙ o.paired j k)

    one : (i j : ℕ) → among (used other.of_clause) i ≡ true → among (used other.of_clause) j ≡ true
        → partner part m R other.of_clause i ≡ partner part m R other.of_clause j → i ≡ j
    one i j u w e = elim ((case i u).which) [
      | inl a ↦ elim ((case j w).which) [
        | inl b ↦ once i j u w (sym a.2 ∙ ap (λ k. get_or m.of_clause k 0) e ∙ b.2)
        | inr b ↦ absurd (both_ways _ b.0 (subst (λ k. among R (get_or part k 0) ≡ true) (e ∙ b.1) a.1))
      ]
      | inr a ↦ elim ((case j w).which) [
        | inl b ↦ absurd (both_ways _ a.0 (subst (λ k. among R (get_or part k 0) ≡ true) (sym e ∙ a.1) b.1))
        | inr b ↦ sym a.1 ∙ e ∙ b.1
      ]
    ]

pub cover_law : CoverLaw
cover_law = record {
  maximum = λ F part m form r h c. record { matching = h; most = λ other o. covered F part m c.0 other form r h c.1 o };
  cover = maximum_has_cover;
}
