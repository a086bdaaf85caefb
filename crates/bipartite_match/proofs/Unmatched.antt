-- The positions whose clauses have no variable.
use Rattle.std.proofs.Common.{◌≡◌, ◌≢◌, ℕ, zero, suc, ◌<◌, Bool, true, false, cond, not, ◌==◌, List, [], ◌∷◌, length, get_or, refl, sym, ◌∙◌, ap, subst, arith, inl, inr, IsTrue, map, filter, zip, replicate}
use Rattle.std.specs.List.{remove}
use Rattle.std.proofs.lemmas.Bool.{eqb-true, lt-ltb, le-leb}
use Rattle.std.proofs.lemmas.List.{length-replicate}
use Rattle.lk_model.specs.Lists.{among, rises_within}
use Rattle.lk_model.specs.Formulas.Formula.{Cnf}
use Rattle.lk_model.specs.Formulas.Lean.{are_positions}
use Rattle.lk_model.proofs.Booleans.{or_true, or_left, or_right}
use Rattle.lk_model.proofs.Lists.{among_at, place_of}
use Rattle.lk_model.proofs.Rising.{rises, rises_from, rising_bounds, bounded}
use Rattle.bipartite_match.specs.declared.matching.Matching.{Matching}
use Rattle.bipartite_match.specs.Matchings.{IsMatching, IsReady}
use Rattle.bipartite_match.specs.Pairing.{unmatched_in}
use Rattle.matching_layers.specs.Found.{first_layers}
use Rattle.bipartite_match.specs.Found.{kept_of}
use Rattle.bipartite_match.proofs.Numbers.{zeros, zero_at}
use Rattle.bipartite_match.proofs.Begins.{in_first, from_first}
use Rattle.bipartite_match.proofs.Reaching.{kept_rises, kept_at, in_kept}

-- they are what a search has in its first layer
are_first : (part cl : List ℕ) → unmatched_in part cl ≡ kept_of part (first_layers cl)
are_first [] cl = refl
are_first (p ∷ part) [] = refl
are_first (p ∷ part) (v ∷ cl) = at_test (v == 0) (are_first part cl)
  where
    bare : List (ℕ × ℕ)
    bare = filter (λ e. e.1 == 0) (zip part cl)

    first : List (ℕ × ℕ)
    first = filter (λ e. not (e.1 == 0)) (zip part (first_layers cl))

    at_test : (b : Bool) → unmatched_in part cl ≡ kept_of part (first_layers cl)
        → map (λ (e : ℕ × ℕ). e.0) (cond b ((p, v) ∷ bare) bare) ≡ map (λ (e : ℕ × ℕ). e.0) (cond (not (cond b 1 0 == 0)) ((p, cond b 1 0) ∷ first) first)
    at_test true e = ap (λ (ps : List ℕ). p ∷ ps) e
    at_test false e = e

pub is_ready : (F : Cnf) (part : List ℕ) (m : Matching) → IsTrue (are_positions F part) → IsMatching F part m → m.unmatched ≡ unmatched_in part m.of_clause
    → m.seen ≡ replicate F.vars false → IsReady F part m
is_ready F part m r h u s = record {
  matching = h;
  ascending = subst (λ ps. rises_within 0 (length F.clauses) ps ≡ true) (sym is) (kept_rises 0 (length F.clauses) part (first_layers m.of_clause) r);
  unmatched = λ p. (
    λ e. let w = kept_at part (first_layers m.of_clause) p (subst (λ ps. among ps p ≡ true) is e) in
        record { index = w.index; inside = w.inside; is = w.is; none = (from_first m.of_clause w.index w.reached).none },
    λ x. let one = in_first m.of_clause x.index (record { inside = subst (λ k. x.index < k) (sym h.clauses) x.inside; none = x.none }) in
        subst (λ ps. among ps p ≡ true) (sym is)
        (subst (λ q. among (kept_of part (first_layers m.of_clause)) q ≡ true) x.is (in_kept part (first_layers m.of_clause) x.index x.inside (λ z. let f = sym one ∙ z in omega (arith, f)))),
  );
  unmarked = s;
}
  where
    is : m.unmatched ≡ kept_of part (first_layers m.of_clause)
    is = u ∙ are_first part m.of_clause

pub none_matched : (F : Cnf) (part : List ℕ) (m : Matching) → IsTrue (are_positions F part) → m.of_clause ≡ replicate (length part) 0 → m.of_var ≡ replicate F.vars 0
    → m.unmatched ≡ part → m.seen ≡ replicate F.vars false → IsReady F part m
unfolding zeros
none_matched F part m r c v u s = record {
  matching = record {
    clauses = ap (λ (xs : List ℕ). length xs) c ∙ length-replicate (length part) 0;
    vars = ap (λ (xs : List ℕ). length xs) v ∙ length-replicate F.vars 0;
    joined = λ i n. absurd (n (clause i));
    paired = λ i n. absurd (n (clause i));
    held = λ k n. absurd (n (var k));
  };
  ascending = subst (λ ps. rises_within 0 (length F.clauses) ps ≡ true) (sym u) r;
  unmatched = λ p. (
    λ e. let w = place_of part p (subst (λ ps. among ps p ≡ true) u e) in record { index = w.0; inside = w.1; is = w.2; none = clause w.0 },
    λ x. subst (λ ps. among ps p ≡ true) (sym u) (subst (λ q. among part q ≡ true) x.is (among_at part x.index x.inside)),
  );
  unmarked = s;
}
  where
    clause : (k : ℕ) → get_or m.of_clause k 0 ≡ 0
    clause k = ap (λ (xs : List ℕ). get_or xs k 0) c ∙ zero_at (length part) k

    var : (k : ℕ) → get_or m.of_var k 0 ≡ 0
    var k = ap (λ (xs : List ℕ). get_or xs k 0) v ∙ zero_at F.vars k

-- ONE LESS

pub rises_remove : (low high : ℕ) (xs : List ℕ) (i : ℕ) → rises_within low high xs ≡ true → i < length xs → rises_within low high (remove xs i) ≡ true
rises_remove low high [] i r l = absurd (omega (arith, l))
rises_remove low high (x ∷ xs) zero r l = let s = rises low high x xs r in let a = s.above in rises_from low x high xs (omega (arith, a)) s.more
rises_remove low high (x ∷ xs) (suc i) r l =
    let s = rises low high x xs r in rw (lt-ltb low x s.above, le-leb x high s.within, rises_remove x high xs i s.more (omega (arith, l))) refl

-- what stays
pub among_rest : (xs : List ℕ) (i p : ℕ) → i < length xs → among xs p ≡ true → p ≢ get_or xs i 0 → among (remove xs i) p ≡ true
among_rest [] i p l e n = absurd (omega (arith, l))
among_rest (x ∷ xs) zero p l e n = elim (or_true (x == p) (among xs p) e) [
  | inl s ↦ absurd (n (sym (eqb-true x p s)))
  | inr t ↦ t
]
among_rest (x ∷ xs) (suc i) p l e n = elim (or_true (x == p) (among xs p) e) [
  | inl s ↦ or_left (x == p) (among (remove xs i) p) s
  | inr t ↦ or_right (x == p) (among (remove xs i) p) (among_rest xs i p (omega (arith, l)) t n)
]

pub from_rest : (low high : ℕ) (xs : List ℕ) (i p : ℕ) → rises_within low high xs ≡ true → i < length xs → among (remove xs i) p ≡ true
    → (among xs p ≡ true) × (p ≢ get_or xs i 0)
from_rest low high [] i p r l e = absurd (omega (arith, l))
from_rest low high (x ∷ xs) zero p r l e =
    let b = (bounded x high xs p (rises low high x xs r).more e).0 in (or_right (x == p) (among xs p) e, λ s. omega (arith, b, s))
from_rest low high (x ∷ xs) (suc i) p r l e = elim (or_true (x == p) (among (remove xs i) p) e) [
  | inl s ↦
      (let b = (rising_bounds x high xs i (rises low high x xs r).more (omega (arith, l))).0 in let f = eqb-true x p s in
      (or_left (x == p) (among xs p) s, λ t. omega (arith, b, f, t)))
  | inr t ↦ (let w = from_rest x high xs i p (rises low high x xs r).more (omega (arith, l)) t in (or_right (x == p) (among xs p) w.0, w.1))
]
