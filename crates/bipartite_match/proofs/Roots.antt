-- Where a search for one path begins.
use Rattle.std.proofs.Common.{◌≡◌, ℕ, ◌<◌, Bool, false, List, [], ◌∷◌, length, get_or, refl, sym, ◌∙◌, ap, subst, arith, map, replicate}
use Rattle.std.proofs.Math.ListN.{get_or-map}
use Rattle.std.proofs.lemmas.Bool.{both_ways}
use Rattle.std.proofs.lemmas.List.{length-map, length-replicate}
use Rattle.lk_model.specs.Formulas.Formula.{Cnf}
use Rattle.lk_model.specs.Held.VariableSets.{is_in}
use Rattle.lk_model.proofs.Lists.{among_at, place_of}
use Rattle.lk_model.proofs.VariableLists.{none_in}
use Rattle.bipartite_match.specs.declared.augmenting.Start.{Start}
use Rattle.bipartite_match.specs.declared.augmenting.Start.TheVariants.{Clause, Variable}
use Rattle.bipartite_match.specs.declared.matching.Matching.{Matching}
use Rattle.bipartite_match.specs.declared.visits.Visit.{Visit}
use Rattle.bipartite_match.specs.Matchings.{IsUnmatched, IsReady}
use Rattle.bipartite_match.specs.Visiting.{visit_at, Seen, IsRoot, root_visit, roots_of, CanVisit}
use Rattle.bipartite_match.proofs.Numbers.{rising_once}
use Rattle.bipartite_match.proofs.Seeking.{IsVisited, IsSeeking}

-- what holds of the first queue
pub record AreRoots (part : List ℕ) (m : Matching) (from : Start) (q : List Visit) : Type 0 where
  pub root : (k : ℕ) → k < length q → IsRoot part m from (visit_at q k).pos
  pub first : (k : ℕ) → k < length q → (visit_at q k).by ≡ 0
  pub some : (k : ℕ) → k < length q → (i : ℕ) × (i < length part) × (get_or part i 0 ≡ (visit_at q k).pos)
  pub once : (k l : ℕ) → k < length q → l < length q → (visit_at q k).pos ≡ (visit_at q l).pos → k ≡ l
  pub all : (p : ℕ) → IsRoot part m from p → IsVisited q p

pub one_root : (part : List ℕ) (m : Matching) (p : ℕ) → IsUnmatched part m p → AreRoots part m (Clause p) (root_visit p ∷ [])
one_root part m p u = record {
  root = λ k l. at k l (λ x. x.pos ≡ p) refl;
  first = λ k l. at k l (λ x. x.by ≡ 0) refl;
  some = λ k l. at k l (λ x. (i : ℕ) × (i < length part) × (get_or part i 0 ≡ x.pos)) (u.index, u.inside, u.is);
  once = λ k l a b e. let x = only k a in let y = only l b in omega (arith, x, y);
  all = λ q e. (0, omega arith, sym e);
}
  where
    only : (k : ℕ) → k < length (root_visit p ∷ []) → k ≡ 0
    only k l = omega (arith, l)

    at : (k : ℕ) → k < length (root_visit p ∷ []) → (P : Visit → Type 0) → P (root_visit p) → P (visit_at (root_visit p ∷ []) k)
    at k l P h = subst (λ j. P (visit_at (root_visit p ∷ []) j)) (sym (only k l)) h

all_roots : (F : Cnf) (part : List ℕ) (m : Matching) (v : ℕ) → IsReady F part m → AreRoots part m (Variable v) (map root_visit m.unmatched)
all_roots F part m v h = record {
  root = λ k l. bare k l;
  first = λ k l. ap (λ (x : Visit). x.by) (at k);
  some = λ k l. let u = bare k l in (u.index, u.inside, u.is);
  once = λ k l a b e. rising_once 0 (length F.clauses) m.unmatched k l h.ascending (fits k a) (fits l b)
      (sym (ap (λ (x : Visit). x.pos) (at k)) ∙ e ∙ ap (λ (x : Visit). x.pos) (at l));
  all = λ p u.
      let w = place_of m.unmatched p ((h.unmatched p).1 u) in
      (w.0, (let l = w.1 in let n = length-map m.unmatched root_visit in omega (arith, l, n)), ap (λ (x : Visit). x.pos) (at w.0) ∙ w.2);
}
  where
    at : (k : ℕ) → visit_at (map root_visit m.unmatched) k ≡ root_visit (get_or m.unmatched k 0)
    at k = get_or-map root_visit m.unmatched k 0

    fits : (k : ℕ) → k < length (map root_visit m.unmatched) → k < length m.unmatched
    fits k l = let n = length-map m.unmatched root_visit in omega (arith, l, n)

    bare : (k : ℕ) → k < length (map root_visit m.unmatched) → IsUnmatched part m (visit_at (map root_visit m.unmatched) k).pos
    bare k l = subst (λ (x : Visit). IsUnmatched part m x.pos) (sym (at k)) ((h.unmatched (get_or m.unmatched k 0)).0 (among_at m.unmatched k (fits k l)))

pub are_roots : (F : Cnf) (part : List ℕ) (m : Matching) (from : Start) → CanVisit F part m from → IsReady F part m → AreRoots part m from (roots_of m.unmatched from)
are_roots F part m (Clause p) c h = one_root part m p (c.bare p refl)
are_roots F part m (Variable v) c h = all_roots F part m v h

pub begins : (F : Cnf) (part : List ℕ) (m : Matching) (from : Start) (s : Seen) → AreRoots part m from s.queue → s.seen ≡ replicate F.vars false → s.end ≡ 0
    → IsSeeking F part m from s 0
begins F part m from s r e z = record {
  visits = record {
    root = λ k l n. r.root k l;
    earlier = λ k l n. absurd (n (r.first k l));
    holds = λ k l n. absurd (n (r.first k l));
    mate = λ k l n. absurd (n (r.first k l));
    some = r.some;
    once = r.once;
  };
  size = ap (λ (xs : List Bool). length xs) e ∙ length-replicate F.vars false;
  going = z;
  done = λ k v l. absurd (omega (arith, l));
  marks = record {
    by = λ v t. absurd (both_ways _ (subst (λ (xs : List Bool). is_in xs v ≡ false) (sym e) (none_in F.vars v)) t);
    within = λ k l. let b = r.first k l in omega (arith, b);
  };
  bys = λ k l n. absurd (n (r.first k l));
  roots = r.all;
  reaches = omega arith;
}
