-- The pairs of a matching as entries.
use Rattle.std.proofs.Common.{◌≡◌, ◌≢◌, ℕ, zero, suc, ◌+◌, ◌-◌, ◌<◌, ◌≤◌, Bool, true, false, cond, not, ◌==◌, List, [], ◌∷◌, ◌++◌, drop, length, get_or, refl, sym, ◌∙◌, ap, subst, arith, filter, map, zip, Contains}
use Rattle.std.proofs.lemmas.Bool.{eqb-true, eq-eqb, both_ways, lt-ltb, le-leb}
use Rattle.std.proofs.lemmas.Bool.Decides.{nat_tests}
use Rattle.std.proofs.lemmas.List.{append-nil, append_assoc, drop_all, drop_more}
use Rattle.lk_model.specs.Lists.{among, rises_within}
use Rattle.lk_model.specs.Formulas.Literal.{mentions}
use Rattle.lk_model.specs.Formulas.Formula.{Cnf, clause_at}
use Rattle.lk_model.specs.Formulas.Lean.{are_positions}
use Rattle.lk_model.specs.declared.document.Own.{Own}
use Rattle.lk_model.proofs.Booleans.{or_left, or_right}
use Rattle.lk_model.proofs.Rising.{Rises, rises, rises_from}
use Rattle.bipartite_match.specs.declared.matching.Matching.{Matching}
use Rattle.bipartite_match.specs.Matchings.{IsMatching}
use Rattle.deficiency.specs.Deficiency.{AreOwners, pairs_of}
use Rattle.deficiency.proofs.Bounds.{owned_of}

-- one entry, or none, before those of the rest
pub with_entry : Bool → ℕ → ℕ → List Own → List Own
with_entry b p v own = cond b (record { pos = p; var = v } ∷ own) own

pub pairs_more : (p v : ℕ) (part cl : List ℕ) → pairs_of (p ∷ part) (v ∷ cl) ≡ with_entry (not (v == 0)) p v (pairs_of part cl)
unfolding with_entry
pairs_more p v part cl = at_test (not (v == 0))
  where
    at_test : (b : Bool) → map (λ (e : ℕ × ℕ). let o : Own = record { pos = e.0; var = e.1 } in o)
        (cond b ((p, v) ∷ filter (λ e. not (e.1 == 0)) (zip part cl)) (filter (λ e. not (e.1 == 0)) (zip part cl)))
        ≡ cond b (record { pos = p; var = v } ∷ pairs_of part cl) (pairs_of part cl)
    at_test true = refl
    at_test false = refl

-- along the list: a clause with a variable is one pair more
pub pair_taken : (part cl : List ℕ) (own after : List Own) (i : ℕ) (all : List Own) → i < length part → length part ≡ length cl → get_or cl i 0 ≢ 0
    → after ≡ own ++ record { pos = get_or part i 0; var = get_or cl i 0 } ∷ [] → own ++ pairs_of (drop i part) (drop i cl) ≡ all → after ++ pairs_of (drop (i + 1) part) (drop (i + 1) cl) ≡ all
unfolding with_entry
pair_taken part cl own after i all h l some a e =
    let k : i < length cl = omega (arith, h, l) in
    let pair : Own = record { pos = get_or part i 0; var = get_or cl i 0 } in
    let rest = pairs_of (drop (i + 1) part) (drop (i + 1) cl) in
    let test : not (get_or cl i 0 == 0) ≡ true = grind (arith, nat_tests, some) in
    let start : pairs_of (drop i part) (drop i cl) ≡ pair ∷ rest = (λ j. pairs_of (drop_more part i 0 h j) (drop_more cl i 0 k j)) ∙ pairs_more (get_or part i 0) (get_or cl i 0) (drop (i + 1) part) (drop (i + 1) cl)
    ∙ ap (λ b. with_entry b (get_or part i 0) (get_or cl i 0) rest) test in
    ap (λ os. os ++ rest) a ∙ append_assoc own (pair ∷ []) rest ∙ ap (λ os. own ++ os) (sym start) ∙ e

-- and one without is none
pub pair_left : (part cl : List ℕ) (own after : List Own) (i : ℕ) (all : List Own) → i < length part → length part ≡ length cl → get_or cl i 0 ≡ 0
    → after ≡ own → own ++ pairs_of (drop i part) (drop i cl) ≡ all → after ++ pairs_of (drop (i + 1) part) (drop (i + 1) cl) ≡ all
unfolding with_entry
pair_left part cl own after i all h l none a e =
    let k : i < length cl = omega (arith, h, l) in
    let rest = pairs_of (drop (i + 1) part) (drop (i + 1) cl) in
    let test : not (get_or cl i 0 == 0) ≡ false = grind (arith, nat_tests, none) in
    let start : pairs_of (drop i part) (drop i cl) ≡ rest = (λ j. pairs_of (drop_more part i 0 h j) (drop_more cl i 0 k j)) ∙ pairs_more (get_or part i 0) (get_or cl i 0) (drop (i + 1) part) (drop (i + 1) cl)
    ∙ ap (λ b. with_entry b (get_or part i 0) (get_or cl i 0) rest) test in
    ap (λ os. os ++ rest) a ∙ ap (λ os. own ++ os) (sym start) ∙ e

pub pairs_done : (part cl : List ℕ) (own : List Own) (i : ℕ) (all : List Own) → length part ≤ i → own ++ pairs_of (drop i part) (drop i cl) ≡ all → own ≡ all
pairs_done part cl own i all h e = sym (append-nil own) ∙ ap (λ ps. own ++ pairs_of ps (drop i cl)) (sym (drop_all i part h)) ∙ e

pub record FromPair (part cl : List ℕ) (o : Own) : Type 0 where
  pub index : ℕ
  pub inside : index < length part
  pub pos : get_or part index 0 ≡ o.pos
  pub var : get_or cl index 0 ≡ o.var
  pub some : o.var ≢ 0

pub from_pair : (part cl : List ℕ) (o : Own) → Contains (pairs_of part cl) o → FromPair part cl o
unfolding with_entry
from_pair [] cl o (k, lt, e) = absurd (omega (arith, lt))
from_pair (p ∷ part) [] o (k, lt, e) = absurd (omega (arith, lt))
from_pair (p ∷ part) (v ∷ cl) o h = at_test (v == 0) refl (subst (λ (xs : List Own). Contains xs o) (pairs_more p v part cl) h) (from_pair part cl o)
  where
    later : FromPair part cl o → FromPair (p ∷ part) (v ∷ cl) o
    later r = let l = r.inside in record { index = suc r.index; inside = omega (arith, l); pos = r.pos; var = r.var; some = r.some }

    at_test : (b : Bool) → (v == 0) ≡ b → Contains (with_entry (not b) p v (pairs_of part cl)) o → (Contains (pairs_of part cl) o → FromPair part cl o) → FromPair (p ∷ part) (v ∷ cl) o
    at_test false t (zero, lt, e) rest = record {
      index = 0;
      inside = omega arith;
      pos = ap (λ (x : Own). x.pos) e;
      var = ap (λ (x : Own). x.var) e;
      some = λ z. both_ways (v == 0) t (eq-eqb v 0 (ap (λ (x : Own). x.var) e ∙ z));
    }
    at_test false t (suc k, lt, e) rest = later (rest (k, omega (arith, lt), e))
    at_test true t c rest = later (rest c)

pub has_pair : (part cl : List ℕ) (i : ℕ) → i < length part → get_or cl i 0 ≢ 0 → among (owned_of (pairs_of part cl)) (get_or part i 0) ≡ true
unfolding with_entry
has_pair [] cl i l n = absurd (omega (arith, l))
has_pair (p ∷ part) [] zero l n = absurd (n refl)
has_pair (p ∷ part) [] (suc i) l n = absurd (n refl)
has_pair (p ∷ part) (v ∷ cl) zero l n = rw (pairs_more p v part cl) (at_test (v == 0) refl)
  where
    at_test : (b : Bool) → (v == 0) ≡ b → among (owned_of (with_entry (not b) p v (pairs_of part cl))) p ≡ true
    at_test true t = absurd (n (eqb-true v 0 t))
    at_test false t = or_left (p == p) _ (eq-eqb p p refl)
has_pair (p ∷ part) (v ∷ cl) (suc i) l n = rw (pairs_more p v part cl) (at_test (v == 0) (has_pair part cl i (omega (arith, l)) n))
  where
    at_test : (b : Bool) → among (owned_of (pairs_of part cl)) (get_or part i 0) ≡ true → among (owned_of (with_entry (not b) p v (pairs_of part cl))) (get_or part i 0) ≡ true
    at_test true h = h
    at_test false h = or_right (p == get_or part i 0) _ h

pub pairs_rise : (low high : ℕ) (part cl : List ℕ) → rises_within low high part ≡ true → rises_within low high (owned_of (pairs_of part cl)) ≡ true
unfolding with_entry
pairs_rise low high [] cl r = refl
pairs_rise low high (p ∷ part) [] r = refl
pairs_rise low high (p ∷ part) (v ∷ cl) r =
    let s = rises low high p part r in rw (pairs_more p v part cl) (at_test (v == 0) s (pairs_rise p high part cl s.more))
  where
    at_test : (b : Bool) → Rises low high p part → rises_within p high (owned_of (pairs_of part cl)) ≡ true → rises_within low high (owned_of (with_entry (not b) p v (pairs_of part cl))) ≡ true
    at_test true s rest = let a = s.above in rises_from low p high (owned_of (pairs_of part cl)) (omega (arith, a)) rest
    at_test false s rest = rw (lt-ltb low p s.above, le-leb p high s.within, rest) refl

pub pairs_own : (F : Cnf) (part : List ℕ) (m : Matching) → are_positions F part ≡ true → IsMatching F part m → AreOwners F (pairs_of part m.of_clause)
pairs_own F part m rise h = record {
  positions = pairs_rise 0 (length F.clauses) part m.of_clause rise;
  owned = λ o c. let w = from_pair part m.of_clause o c in
      subst (λ p. mentions (clause_at F p) o.var ≡ true) w.pos (subst (λ v. mentions (clause_at F (get_or part w.index 0)) v ≡ true) w.var (h.joined w.index (λ z. w.some (sym w.var ∙ z))));
  differ = λ o u c t s. let w = from_pair part m.of_clause o c in let x = from_pair part m.of_clause u t in
      sym w.pos ∙ sym (h.paired w.index (λ z. w.some (sym w.var ∙ z))) ∙ ap (λ v. get_or m.of_var (v - 1) 0) (w.var ∙ s ∙ sym x.var)
      ∙ h.paired x.index (λ z. x.some (sym x.var ∙ z)) ∙ x.pos;
}
