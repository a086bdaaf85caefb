-- The matching kernel has as many clauses more than variables as a maximum matching leaves without one.
use Rattle.std.proofs.Common.{◌≡◌, ◌≢◌, ℕ, ◌+◌, ◌-◌, ◌<◌, ◌≤◌, Bool, true, not, List, length, get_or, sym, ◌∙◌, ap, subst, arith, filter, inl, inr}
use Rattle.std.proofs.lemmas.Bool.{both_ways, cases_eq}
use Rattle.std.proofs.lemmas.List.{length-map}
use Rattle.std.proofs.lemmas.List.FromFn.{length-range_with_len}
use Rattle.lk_model.specs.Lists.{among}
use Rattle.lk_model.specs.Formulas.Formula.{Cnf, is_formula, IsWithinLimits, positions_of, variables_to, variable_occurs, variables_at}
use Rattle.lk_model.specs.Formulas.Lean.{are_positions, Kernel, KernelWithin}
use Rattle.lk_model.specs.declared.class.Class.TheVariants as class
use Rattle.lk_model.specs.declared.document.Own.{Own}
use Rattle.lk_model.proofs.Counting.{Differ-filter, Differ-range, no_more, in_filter, from_filter}
use Rattle.lk_model.proofs.Lists.{place_of}
use Rattle.lk_model.proofs.Founds.{in_range}
use Rattle.lk_model.proofs.Rising.{bounded, rising_count}
use Rattle.kernel_laws.proofs.Occurrences.{in_positions}
use Rattle.bipartite_match.specs.declared.matching.Matching.{Matching}
use Rattle.bipartite_match.specs.declared.walk.Reached.{Reached}
use Rattle.bipartite_match.specs.Matchings.{IsMatching, IsMaximum}
use Rattle.bipartite_match.specs.Walks.{IsReached, unmatched}
use Rattle.bipartite_match.proofs.Numbers.{within, rising_once}
use Rattle.matching_kernel.specs.KernelReachedLaw.{KernelReachedLaw}
use Rattle.deficiency.specs.Deficiency.{AreOwners, HasDeficiency, IsMaxDeficiency, pairs_of}
use Rattle.deficiency.proofs.Bounds.{owned_of, deficiency_law}
use Rattle.deficiency.proofs.Counts.{split_by, within_count}
use Rattle.deficiency.proofs.Pairs.{has_pair, pairs_own, pairs_rise}

-- the clause of a variable, by its index
record IsClauseOf (part : List ℕ) (m : Matching) (v : ℕ) : Type 0 where
  index : ℕ
  inside : index < length part
  pos : get_or part index 0 ≡ get_or m.of_var (v - 1) 0
  var : get_or m.of_clause index 0 ≡ v

clause_of : (F : Cnf) (part : List ℕ) (m : Matching) (v : ℕ) → IsMatching F part m → 0 < v → get_or m.of_var (v - 1) 0 ≢ 0 → IsClauseOf part m v
clause_of F part m v h some n =
    let w = h.held (v - 1) n in
    let back : get_or m.of_clause w.0 0 ≡ v = w.2 ∙ (let e : v - 1 + 1 ≡ v = omega (arith, some) in e) in
    record {
      index = w.0;
      inside = subst (λ k. w.0 < k) h.clauses (within m.of_clause w.0 (λ z. let e = sym back ∙ z in omega (arith, e, some)));
      pos = w.1;
      var = back;
    }

one_clause : (F : Cnf) (part : List ℕ) (m : Matching) (v w : ℕ) → are_positions F part ≡ true → IsClauseOf part m v → IsClauseOf part m w
    → get_or m.of_var (v - 1) 0 ≡ get_or m.of_var (w - 1) 0 → v ≡ w
one_clause F part m v w rise a b e =
    let same = rising_once 0 (length F.clauses) part a.index b.index rise a.inside b.inside (a.pos ∙ e ∙ sym b.pos) in
    sym a.var ∙ ap (λ k. get_or m.of_clause k 0) same ∙ b.var

pub reached_deficiency : (F : Cnf) (m : Matching) (r : Reached) (d : ℕ) → is_formula F ≡ true → are_positions F (positions_of F) ≡ true
    → IsMaximum F (positions_of F) m → IsReached F (positions_of F) m r → length (pairs_of (positions_of F) m.of_clause) + d ≡ length F.clauses → HasDeficiency F r.kept d
reached_deficiency F m r d form rise most h n =
    let atmost = deficiency_law.bound F own d r.kept form (pairs_own F part m rise most.matching) n h.positions in
    let vars = no_more (λ v. get_or m.of_var (v - 1) 0) (variables_at F r.kept) (filter has r.kept) (Differ-filter (variable_occurs F r.kept) (variables_to F.vars) (Differ-range 1 F.vars))
    (record {
      into = λ v e. let c = clause v e in in_filter has r.kept (get_or m.of_var (v - 1) 0) (subst (λ p. has p ≡ true) c.pos (has_pair part m.of_clause c.index c.inside (λ z. let t = sym c.var ∙ z in let s = some v e in omega (arith, t, s)))) (kept v e);
      one = λ v w e f s. one_clause F part m v w rise (clause v e) (clause w f) s;
    }) in
    let free = within_count (filter (λ p. not (has p)) part) (filter (λ p. not (has p)) r.kept) (Differ-filter (λ p. not (has p)) part (Differ-range 1 (length F.clauses)))
    (λ p e. let w = from_filter (λ p. not (has p)) part p e in in_filter (λ p. not (has p)) r.kept p w.0 (left p w.0 w.1)) in
    let matched = within_count (filter has part) (owned_of own) (Differ-filter has part (Differ-range 1 (length F.clauses))) (λ p e. (from_filter has part p e).0) in
    let a = split_by has part in let b = split_by has r.kept in
    let all = length-range_with_len 1 (length F.clauses) in let same = length-map own (λ (o : Own). o.pos) in
    omega (arith, atmost, vars, free, matched, a, b, all, same, n)
  where
    part : List ℕ
    part = positions_of F

    own : List Own
    own = pairs_of (positions_of F) m.of_clause

    has : ℕ → Bool
    has = among (owned_of (pairs_of (positions_of F) m.of_clause))

    occurs : (v : ℕ) → among (variables_at F r.kept) v ≡ true → (variable_occurs F r.kept v ≡ true) × (among (variables_to F.vars) v ≡ true)
    occurs v e = from_filter (variable_occurs F r.kept) (variables_to F.vars) v e

    some : (v : ℕ) → among (variables_at F r.kept) v ≡ true → 0 < v
    some v e = let b = (in_range 1 F.vars v (occurs v e).1).0 in omega (arith, b)

    kept : (v : ℕ) → among (variables_at F r.kept) v ≡ true → among r.kept (get_or m.of_var (v - 1) 0) ≡ true
    kept v e = (h.each v (occurs v e).0).own.0

    clause : (v : ℕ) → among (variables_at F r.kept) v ≡ true → IsClauseOf (positions_of F) m v
    clause v e = clause_of F (positions_of F) m v most.matching (some v e) (λ z. let b = (bounded 0 (length F.clauses) r.kept (get_or m.of_var (v - 1) 0) h.positions (kept v e)).0 in omega (arith, b, z))

    left : (p : ℕ) → not (has p) ≡ true → among (positions_of F) p ≡ true → among r.kept p ≡ true
    left p n e =
        let w = place_of (positions_of F) p e in
        subst (λ q. among r.kept q ≡ true) w.2 ((h.exactly w.0 w.1).1 (elim (cases_eq (get_or m.of_clause w.0 0) 0) [
          | inl z ↦ unmatched w.0 w.1 z
          | inr some ↦
              (let t : has p ≡ true = subst (λ q. has q ≡ true) w.2 (has_pair (positions_of F) m.of_clause w.0 w.1 some) in
              absurd (let f : ⊥ = both_ways (not (has p)) (ap not t) n in f))
        ]))

-- the pairs are some of the positions
pub pairs_fit : (F : Cnf) (m : Matching) → are_positions F (positions_of F) ≡ true → length (pairs_of (positions_of F) m.of_clause) ≤ length F.clauses
pairs_fit F m rise =
    let r = rising_count 0 (length F.clauses) (owned_of (pairs_of (positions_of F) m.of_clause)) (pairs_rise 0 (length F.clauses) (positions_of F) m.of_clause rise) (omega arith) in
    let same = length-map (pairs_of (positions_of F) m.of_clause) (λ (o : Own). o.pos) in omega (arith, r, same)

-- the kernel of all positions is that of the formula
pub whole_kernel : (F : Cnf) (kept : List ℕ) → KernelWithin class.Matching F (positions_of F) kept → Kernel class.Matching F kept
whole_kernel F kept k = record { positions = k.positions; lean = k.lean; largest = λ S within. k.largest S (λ p s. in_positions F p (within p s)) }

-- All that is promised of a result, from a maximum matching and what is reached from it.
pub record IsAttained (F : Cnf) (r : Reached) (own : List Own) (d : ℕ) : Type 0 where
  pub is_value : IsMaxDeficiency F d
  pub is_kernel : Kernel class.Matching F r.kept
  pub has_it : HasDeficiency F r.kept d
  pub owners : AreOwners F own

pub is_attained : KernelReachedLaw → (F : Cnf) (m : Matching) (r : Reached) (own : List Own) (d : ℕ) → is_formula F ≡ true → IsWithinLimits F → are_positions F (positions_of F) ≡ true
    → IsMaximum F (positions_of F) m → IsReached F (positions_of F) m r → own ≡ pairs_of (positions_of F) m.of_clause → length own + d ≡ length F.clauses → IsAttained F r own d
is_attained law F m r own d form limits rise most h e n =
    let owners = subst (λ (o : List Own). AreOwners F o) (sym e) (pairs_own F (positions_of F) m rise most.matching) in
    let there = reached_deficiency F m r d form rise most h (subst (λ (o : List Own). length o + d ≡ length F.clauses) e n) in
    record {
      is_value = deficiency_law.exact F own d r.kept form owners n h.positions there;
      is_kernel = whole_kernel F r.kept (law.kernel F (positions_of F) m r form limits rise most h);
      has_it = there;
      owners = owners;
    }
