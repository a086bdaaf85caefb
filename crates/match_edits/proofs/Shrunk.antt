-- One clause less.
use Rattle.std.proofs.Common.{◌≡◌, ◌≢◌, ℕ, ◌+◌, ◌-◌, ◌<◌, ◌≤◌, Bool, true, false, not, ◌==◌, List, length, get_or, refl, sym, ◌∙◌, ap, subst, arith, inl, inr, IsTrue, filter, get_or-set_same, get_or-set_other}
use Rattle.std.proofs.Math.ListN.{set}
use Rattle.std.specs.List.{remove}
use Rattle.std.proofs.lemmas.Bool.{cases_eq, eqb-true, eq-eqb, both_ways}
use Rattle.std.proofs.lemmas.List.{length-set}
use Rattle.lk_model.specs.Lists.{among}
use Rattle.lk_model.specs.Formulas.Literal.{mentions}
use Rattle.lk_model.specs.Formulas.Formula.{Cnf, clause_at, is_formula}
use Rattle.lk_model.specs.Formulas.Lean.{are_positions}
use Rattle.lk_model.proofs.Lists.{among_at, place_of}
use Rattle.lk_model.proofs.Counting.{in_filter, from_filter}
use Rattle.lk_model.proofs.Variables.{variable_bound}
use Rattle.bipartite_match.specs.declared.augmenting.Start.TheVariants.{Variable}
use Rattle.bipartite_match.specs.declared.matching.Matching.{Matching}
use Rattle.bipartite_match.specs.Matchings.{IsMatching, IsUnmatched, IsReady}
use Rattle.bipartite_match.specs.Covers.{IsCover, HasCover, IsCoverBut, CoverLaw}
use Rattle.bipartite_match.proofs.Numbers.{within, rising_once}
use Rattle.bipartite_match.proofs.Owning.{index_within, some_position}
use Rattle.bipartite_match.proofs.Unmatched.{rises_remove, among_rest, from_rest}
use Rattle.match_edits.specs.EditLaws.{RestoredBy}
use Rattle.match_edits.specs.Followed.{IsLive, without_unmatched, without_matched}
use Rattle.match_edits.proofs.Rows.{length_remove, was_at, is_at}

-- the matching without the clause at index i, with these positions for the variables and these for the unmatched clauses
without_clause : Matching → ℕ → List ℕ → List ℕ → Matching
without_clause m i vs us = record m { of_clause = remove m.of_clause i; of_var = vs; unmatched = us }

-- The variables but for that of the clause at index i have their clauses still, and that one is free.
record IsFreedOf (F : Cnf) (part : List ℕ) (m : Matching) (i : ℕ) (vs : List ℕ) : Type 0 where
  long : length vs ≡ length m.of_var
  gone : get_or m.of_clause i 0 ≢ 0 → get_or vs (get_or m.of_clause i 0 - 1) 0 ≡ 0
  others : (v : ℕ) → 0 < v → v ≢ get_or m.of_clause i 0 → get_or vs (v - 1) 0 ≡ get_or m.of_var (v - 1) 0

taken_out : (F : Cnf) (part : List ℕ) (m : Matching) (i : ℕ) (vs us : List ℕ) → are_positions F part ≡ true → IsMatching F part m → i < length part → IsFreedOf F part m i vs
    → IsMatching F (remove part i) (without_clause m i vs us)
unfolding without_clause
taken_out F part m i vs us r h l f = record {
  clauses = let a = length_remove m.of_clause i inside in let b = length_remove part i l in let e = h.clauses in omega (arith, a, b, e);
  vars = f.long ∙ h.vars;
  joined = λ j n. let w = was_at part m.of_clause i j l inside in
      subst (λ v. mentions (clause_at F (get_or (remove part i) j 0)) v ≡ true) (sym w.clause_is)
      (subst (λ p. mentions (clause_at F p) (get_or m.of_clause w.was 0) ≡ true) (sym w.part_is) (h.joined w.was (λ z. n (w.clause_is ∙ z))));
  paired = λ j n.
      let w = was_at part m.of_clause i j l inside in
      let some : get_or m.of_clause w.was 0 ≢ 0 = λ z. n (w.clause_is ∙ z) in
      ap (λ v. get_or vs (v - 1) 0) w.clause_is
      ∙ f.others (get_or m.of_clause w.was 0) (omega (arith, some)) (λ s. w.other (once w.was i some (λ z. some (s ∙ z)) s))
      ∙ h.paired w.was some ∙ sym w.part_is;
  held = λ k n. elim (cases_eq (k + 1) (get_or m.of_clause i 0)) [
    | inl s ↦ absurd (n (sym (ap (λ x. get_or vs x 0) (let e : k + 1 - 1 ≡ k = omega arith in e)) ∙ ap (λ x. get_or vs (x - 1) 0) s ∙ f.gone (λ z. let e = s ∙ z in omega (arith, e))))
    | inr ne ↦
        (let back : k + 1 - 1 ≡ k = omega arith in
        let same : get_or vs k 0 ≡ get_or m.of_var k 0 = sym (ap (λ x. get_or vs x 0) back) ∙ f.others (k + 1) (omega arith) ne ∙ ap (λ x. get_or m.of_var x 0) back in
        let w = h.held k (λ z. n (same ∙ z)) in
        let x = is_at part m.of_clause i w.0 l inside (λ s. ne (sym w.2 ∙ ap (λ y. get_or m.of_clause y 0) s)) in
        (x.now, x.part_is ∙ w.1 ∙ sym same, x.clause_is ∙ w.2))
  ];
}
  where
    inside : i < length m.of_clause
    inside = subst (λ k. i < k) (sym h.clauses) l

    once : (a b : ℕ) → get_or m.of_clause a 0 ≢ 0 → get_or m.of_clause b 0 ≢ 0 → get_or m.of_clause a 0 ≡ get_or m.of_clause b 0 → a ≡ b
    once a b x y e = rising_once 0 (length F.clauses) part a b r (index_within F part m a h x) (index_within F part m b h y)
        (sym (h.paired a x) ∙ ap (λ v. get_or m.of_var (v - 1) 0) e ∙ h.paired b y)

-- THE COVER WITHOUT THE CLAUSE

differs : (x p : ℕ) → x ≢ p → not (x == p) ≡ true
differs x p n = at_test (x == p) refl
  where
    at_test : (b : Bool) → (x == p) ≡ b → not b ≡ true
    at_test true e = absurd (n (eqb-true x p e))
    at_test false e = refl

differing : (x p : ℕ) → not (x == p) ≡ true → x ≢ p
differing x p e s = both_ways (not (x == p)) (ap not (eq-eqb x p s)) e

cover_shrunk : (F : Cnf) (part : List ℕ) (m : Matching) (i : ℕ) (vs us R : List ℕ) → IsTrue (is_formula F) → are_positions F part ≡ true → IsMatching F part m → i < length part → IsFreedOf F part m i vs
    → IsCover F part m R
    → IsCoverBut F (remove part i) (without_clause m i vs us) (Variable (get_or m.of_clause i 0)) (filter (λ x. not (x == get_or part i 0)) R)
unfolding without_clause
cover_shrunk F part m i vs us R form r h l f c = record {
  within = λ x e.
      let b = from_filter (λ y. not (y == get_or part i 0)) R x e in
      let w = place_of part x (c.within x b.1) in
      let a = is_at part m.of_clause i w.0 l inside (λ s. differing x (get_or part i 0) b.0 (sym w.2 ∙ ap (λ y. get_or part y 0) s)) in
      subst (λ y. among (remove part i) y ≡ true) (a.part_is ∙ w.2) (among_at (remove part i) a.now (a.inside w.1));
  unmatched = λ x u other.
      let w = was_at part m.of_clause i u.index l inside in
      let here : w.was < length part = w.inside u.inside in
      let is : get_or part w.was 0 ≡ x = sym w.part_is ∙ u.is in
      in_filter (λ y. not (y == get_or part i 0)) R x
      (differs x (get_or part i 0) (λ s. w.other (rising_once 0 (length F.clauses) part w.was i r here l (is ∙ s))))
      (c.unmatched x (record { index = w.was; inside = here; is = is; none = sym w.clause_is ∙ u.none }));
  closed = λ x v e j.
      let b = from_filter (λ y. not (y == get_or part i 0)) R x e in
      let some = (variable_bound F x v form j).0 in
      let at = c.closed x v b.1 j in
      elim (cases_eq v (get_or m.of_clause i 0)) [
        | inl s ↦ inr s
        | inr ne ↦ inl (subst (λ y. among (filter (λ z. not (z == get_or part i 0)) R) y ≡ true) (sym (f.others v some ne))
            (in_filter (λ y. not (y == get_or part i 0)) R (get_or m.of_var (v - 1) 0)
            (differs (get_or m.of_var (v - 1) 0) (get_or part i 0) (λ s. ne (owner v some s))) at))
      ];
}
  where
    inside : i < length m.of_clause
    inside = subst (λ k. i < k) (sym h.clauses) l

    owner : (v : ℕ) → 0 < v → get_or m.of_var (v - 1) 0 ≡ get_or part i 0 → v ≡ get_or m.of_clause i 0
    owner v some s =
        let w = h.held (v - 1) (λ z. some_position F part i r l (sym s ∙ z)) in
        let there = index_within F part m w.0 h (λ z. let g = sym w.2 ∙ z in omega (arith, g)) in
        let same = rising_once 0 (length F.clauses) part w.0 i r there l (w.1 ∙ s) in
        let g : v - 1 + 1 ≡ v = omega (arith, some) in
        sym g ∙ sym w.2 ∙ ap (λ y. get_or m.of_clause y 0) same

-- A CLAUSE GOES THAT HAS NO VARIABLE

-- the clauses that have none are the others of those before
others_unmatched : (F : Cnf) (part : List ℕ) (m : Matching) (i j : ℕ) → are_positions F part ≡ true → IsReady F part m → i < length part → j < length m.unmatched
    → get_or m.unmatched j 0 ≡ get_or part i 0 → (p : ℕ) → (IsTrue (among (remove m.unmatched j) p) → IsUnmatched (remove part i) (without_unmatched m i j) p)
    × (IsUnmatched (remove part i) (without_unmatched m i j) p → IsTrue (among (remove m.unmatched j) p))
others_unmatched F part m i j r h l k e p = (
  λ t.
      let b = from_rest 0 (length F.clauses) m.unmatched j p h.ascending k t in
      let u = (h.unmatched p).0 b.0 in
      let w = is_at part m.of_clause i u.index l inside (λ s. b.1 (sym u.is ∙ ap (λ y. get_or part y 0) s ∙ sym e)) in
      record { index = w.now; inside = w.inside u.inside; is = w.part_is ∙ u.is; none = w.clause_is ∙ u.none },
  λ u.
      let w = was_at part m.of_clause i u.index l inside in
      let here : w.was < length part = w.inside u.inside in
      let is : get_or part w.was 0 ≡ p = sym w.part_is ∙ u.is in
      among_rest m.unmatched j p k
      ((h.unmatched p).1 (record { index = w.was; inside = here; is = is; none = sym w.clause_is ∙ u.none }))
      (λ s. w.other (rising_once 0 (length F.clauses) part w.was i r here l (is ∙ s ∙ e))),
)
  where
    inside : i < length m.of_clause
    inside = subst (λ n. i < n) (sym h.matching.clauses) l

pub unmatched_removed : CoverLaw → (F : Cnf) (part : List ℕ) (m : Matching) (i j : ℕ) → IsTrue (is_formula F) → IsLive F part m → i < length part → get_or m.of_clause i 0 ≡ 0
    → j < length m.unmatched → get_or m.unmatched j 0 ≡ get_or part i 0 → IsLive F (remove part i) (without_unmatched m i j)
unfolding without_clause
unmatched_removed law F part m i j form s l none k e = record {
  positions = rise;
  maximum = law.maximum F (remove part i) (without_unmatched m i j) form rise matching (filter (λ x. not (x == get_or part i 0)) cover.0, record { within = but.within; unmatched = λ p u. but.unmatched p u tt; closed = closed });
  ready = record {
    matching = matching;
    ascending = rises_remove 0 (length F.clauses) m.unmatched j s.ready.ascending k;
    unmatched = others_unmatched F part m i j s.positions s.ready l k e;
    unmarked = s.ready.unmarked;
  };
}
  where
    rise : are_positions F (remove part i) ≡ true
    rise = rises_remove 0 (length F.clauses) part i s.positions l

    cover : HasCover F part m
    cover = law.cover F part m form s.positions s.maximum

    free : IsFreedOf F part m i m.of_var
    free = record { long = refl; gone = λ n. absurd (n none); others = λ v some ne. refl }

    matching : IsMatching F (remove part i) (without_unmatched m i j)
    matching = taken_out F part m i m.of_var (remove m.unmatched j) s.positions s.ready.matching l free

    but : IsCoverBut F (remove part i) (without_unmatched m i j) (Variable (get_or m.of_clause i 0)) (filter (λ x. not (x == get_or part i 0)) cover.0)
    but = cover_shrunk F part m i m.of_var (remove m.unmatched j) cover.0 form s.positions s.ready.matching l free cover.1

    closed : (p v : ℕ) → IsTrue (among (filter (λ x. not (x == get_or part i 0)) cover.0) p) → IsTrue (mentions (clause_at F p) v)
        → IsTrue (among (filter (λ x. not (x == get_or part i 0)) cover.0) (get_or m.of_var (v - 1) 0))
    closed p v e j = elim (but.closed p v e j) [
      | inl t ↦ t
      | inr z ↦ absurd (let b = (variable_bound F p v form j).0 in let f = z ∙ none in omega (arith, b, f))
    ]

-- A CLAUSE GOES THAT HAS A VARIABLE

-- the clauses that have none are those before
same_unmatched : (F : Cnf) (part : List ℕ) (m : Matching) (i : ℕ) → IsReady F part m → i < length part → get_or m.of_clause i 0 ≢ 0 → (p : ℕ)
    → (IsTrue (among m.unmatched p) → IsUnmatched (remove part i) (without_matched m i) p) × (IsUnmatched (remove part i) (without_matched m i) p → IsTrue (among m.unmatched p))
same_unmatched F part m i h l had p = (
  λ t.
      let u = (h.unmatched p).0 t in
      let w = is_at part m.of_clause i u.index l inside (λ s. had (sym (ap (λ y. get_or m.of_clause y 0) s) ∙ u.none)) in
      record { index = w.now; inside = w.inside u.inside; is = w.part_is ∙ u.is; none = w.clause_is ∙ u.none },
  λ u.
      let w = was_at part m.of_clause i u.index l inside in
      (h.unmatched p).1 (record { index = w.was; inside = w.inside u.inside; is = sym w.part_is ∙ u.is; none = sym w.clause_is ∙ u.none }),
)
  where
    inside : i < length m.of_clause
    inside = subst (λ n. i < n) (sym h.matching.clauses) l

pub matched_removed : CoverLaw → (F : Cnf) (part : List ℕ) (m : Matching) (i : ℕ) → IsTrue (is_formula F) → IsLive F part m → i < length part → get_or m.of_clause i 0 ≢ 0
    → RestoredBy F (remove part i) (without_matched m i) (Variable (get_or m.of_clause i 0))
unfolding without_clause
matched_removed law F part m i form s l had = record {
  positions = rise;
  ready = record {
    matching = taken_out F part m i vs m.unmatched s.positions s.ready.matching l free;
    ascending = s.ready.ascending;
    unmatched = same_unmatched F part m i s.ready l had;
    unmarked = s.ready.unmarked;
  };
  start = record { some = omega (arith, had); most = bound; free = free.gone had };
  maximum = λ after h restores. law.maximum F (remove part i) after form rise h
      (restores (filter (λ x. not (x == get_or part i 0)) cover.0, cover_shrunk F part m i vs m.unmatched cover.0 form s.positions s.ready.matching l free cover.1));
}
  where
    rise : are_positions F (remove part i) ≡ true
    rise = rises_remove 0 (length F.clauses) part i s.positions l

    cover : HasCover F part m
    cover = law.cover F part m form s.positions s.maximum

    vs : List ℕ
    vs = set m.of_var (get_or m.of_clause i 0 - 1) 0

    bound : get_or m.of_clause i 0 ≤ F.vars
    bound = (variable_bound F (get_or part i 0) (get_or m.of_clause i 0) form (s.ready.matching.joined i had)).1

    free : IsFreedOf F part m i (set m.of_var (get_or m.of_clause i 0 - 1) 0)
    free = record {
      long = length-set m.of_var (get_or m.of_clause i 0 - 1) 0;
      gone = λ n. get_or-set_same m.of_var (get_or m.of_clause i 0 - 1) 0 0 (within m.of_var (get_or m.of_clause i 0 - 1) (λ z. some_position F part i s.positions l (sym (s.ready.matching.paired i had) ∙ z)));
      others = λ v first ne. get_or-set_other m.of_var (get_or m.of_clause i 0 - 1) (v - 1) 0 0 (λ q. ne (omega (arith, q, first, had)));
    }
