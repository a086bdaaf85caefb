-- Exchanging the pairs of the path that a search found.
use Rattle.std.proofs.Common.{◌≡◌, ◌≢◌, ℕ, ◌+◌, ◌-◌, ◌<◌, ◌≤◌, Bool, true, false, cond, ◌==◌, List, length, get_or, refl, sym, ◌∙◌, ap, subst, arith, inl, inr, IsTrue}
use Rattle.std.proofs.lemmas.Bool.{eqb-true, eq-eqb, cases_eq}
use Rattle.lk_model.specs.Formulas.Literal.{mentions}
use Rattle.lk_model.specs.Formulas.Formula.{Cnf, is_formula, clause_at}
use Rattle.lk_model.proofs.Variables.{variable_bound}
use Rattle.bipartite_match.specs.declared.augmenting.Start.{Start}
use Rattle.bipartite_match.specs.declared.augmenting.Start.TheVariants.{Clause, Variable}
use Rattle.bipartite_match.specs.declared.matching.Matching.{Matching}
use Rattle.bipartite_match.specs.declared.visits.Visit.{Visit}
use Rattle.bipartite_match.specs.Matchings.{IsMatching, IsUnmatched, pair_count}
use Rattle.bipartite_match.specs.Ways.{IsStart}
use Rattle.bipartite_match.specs.Covers.{IsCoverBut, IsAugmented}
use Rattle.bipartite_match.specs.Visiting.{visit_at, IsRoot, AreVisits, EndsIn, CanVisit, CanSearch, with_own}
use Rattle.bipartite_match.proofs.Numbers.{rising_once}
use Rattle.bipartite_match.proofs.Owning.{Owns, owns, some_position, index_within}
use Rattle.bipartite_match.proofs.Restoring.{IsClosedBut, IsStep, closed_first, closed_next, closed_last}

-- a search begins at clauses without a variable
pub root_unmatched : (F : Cnf) (part : List ℕ) (m : Matching) (from : Start) (p : ℕ) → IsStart F part m from → IsRoot part m from p → IsUnmatched part m p
root_unmatched F part m (Clause q) p s r = subst (λ x. IsUnmatched part m x) (sym r) s
root_unmatched F part m (Variable v) p s r = r

pub can_visit : (F : Cnf) (part : List ℕ) (m : Matching) (from : Start) → CanSearch F part m from → CanVisit F part m from
can_visit F part m from c = record { part_rises = c.part_rises; matching = c.matching; bare = λ p r. root_unmatched F part m from p c.start r }

-- Back along the path: the clause at the place takes v, which is free now.
pub record Going (F : Cnf) (part : List ℕ) (m : Matching) (from : Start) (q : List Visit) (now : Matching) (v place : ℕ) : Type 0 where
  pub matching : IsMatching F part now
  pub inside : place < length q
  pub free : get_or now.of_var (v - 1) 0 ≡ 0
  pub holds : IsTrue (mentions (clause_at F (visit_at q place).pos) v)
  pub same : pair_count now ≡ pair_count m
  pub agrees : (k i : ℕ) → k ≤ place → i < length part → get_or part i 0 ≡ (visit_at q k).pos → get_or now.of_clause i 0 ≡ get_or m.of_clause i 0
  pub clauses : (i : ℕ) → get_or m.of_clause i 0 ≢ 0 → get_or now.of_clause i 0 ≢ 0
  pub before : (i : ℕ) → get_or now.of_clause i 0 ≢ 0 → get_or m.of_clause i 0 ≢ 0
  pub vars : (k : ℕ) → k ≢ v - 1 → get_or m.of_var k 0 ≢ 0 → get_or now.of_var k 0 ≢ 0
  pub covers : (R : List ℕ) → IsCoverBut F part m from R → IsClosedBut F from R now v

pub record AugmentState (F : Cnf) (part : List ℕ) (m : Matching) (from : Start) (q : List Visit) (now : Matching) (v place root : ℕ) : Type 0 where
  pub going : v ≢ 0 → Going F part m from q now v place
  pub done : v ≡ 0 → IsAugmented F part from m now root

pub augment_starts : (F : Cnf) (part : List ℕ) (m : Matching) (from : Start) (q : List Visit) (v place root : ℕ) → CanSearch F part m from → EndsIn F part m from q place v
    → AugmentState F part m from q m v place root
augment_starts F part m from q v place root s e = record {
  going = λ n. record {
    matching = s.matching;
    inside = e.inside;
    free = e.free.free;
    holds = e.holds;
    same = refl;
    agrees = λ k i l h t. refl;
    clauses = λ i n. n;
    before = λ i n. n;
    vars = λ k ne n. n;
    covers = closed_first F part m from q place v s e;
  };
  done = λ z. let a = e.free.some in absurd (omega (arith, a, z));
}

-- the clause at the place has the variable by which the search reached it, and none where the search began
pub own_is : (F : Cnf) (part : List ℕ) (m : Matching) (from : Start) (q : List Visit) (now : Matching) (v place i : ℕ) → CanSearch F part m from → AreVisits F part m from q
    → Going F part m from q now v place → i < length part → get_or part i 0 ≡ (visit_at q place).pos → get_or now.of_clause i 0 ≡ (visit_at q place).by
own_is F part m from q now v place i s a g inside is = g.agrees place i (omega arith) inside is ∙ elim (cases_eq (visit_at q place).by 0) [
  | inl z ↦
      (let u = root_unmatched F part m from (visit_at q place).pos s.start (a.root place g.inside z) in
      let same = rising_once 0 (length F.clauses) part i u.index s.part_rises inside u.inside (is ∙ sym u.is) in
      ap (λ x. get_or m.of_clause x 0) same ∙ u.none ∙ sym z)
  | inr n ↦
      (let mate = a.mate place g.inside n in
      let partner = s.matching.held ((visit_at q place).by - 1) (λ z. some_position F part i s.part_rises inside (is ∙ sym mate ∙ z)) in
      let own : get_or m.of_clause partner.0 0 ≡ (visit_at q place).by = partner.2 ∙ (let e : (visit_at q place).by - 1 + 1 ≡ (visit_at q place).by = omega (arith, n) in e) in
      let same = rising_once 0 (length F.clauses) part i partner.0 s.part_rises inside
      (index_within F part m partner.0 s.matching (λ z. n (sym own ∙ z))) (is ∙ sym mate ∙ sym partner.1) in
      ap (λ x. get_or m.of_clause x 0) same ∙ own)
]

pub augment_goes : (F : Cnf) (part : List ℕ) (m : Matching) (from : Start) (q : List Visit) (now after : Matching) (v place i : ℕ) → IsTrue (is_formula F) → CanSearch F part m from
    → AreVisits F part m from q → Going F part m from q now v place → i < length part → get_or part i 0 ≡ (visit_at q place).pos → after ≡ with_own now i (visit_at q place).pos v
    → AugmentState F part m from q after (visit_at q place).by (visit_at q place).from (visit_at q place).pos
augment_goes F part m from q now after v place i form s a g inside is made = record { going = goes; done = ends }
  where
    pos : ℕ
    pos = (visit_at q place).pos

    some : v ≢ 0
    some z = let b = (variable_bound F (visit_at q place).pos v form g.holds).0 in omega (arith, b, z)

    next : Owns F part now i v after
    next =
        subst (λ (x : Matching). Owns F part now i v x) (ap (λ p. with_own now i p v) is ∙ sym made)
        (owns F part now i v (record {
          formula = form;
          part_rises = s.part_rises;
          matching = g.matching;
          index = inside;
          holds = subst (λ p. mentions (clause_at F p) v ≡ true) (sym is) g.holds;
          free = g.free;
        }))

    old : get_or now.of_clause i 0 ≡ get_or m.of_clause i 0
    old = g.agrees place i (omega arith) inside is

    kept_clauses : (j : ℕ) → get_or m.of_clause j 0 ≢ 0 → get_or after.of_clause j 0 ≢ 0
    kept_clauses j n = elim (cases_eq j i) [
      | inl e ↦ (λ z. some (sym next.here ∙ ap (λ x. get_or after.of_clause x 0) (sym e) ∙ z))
      | inr ne ↦ (λ z. g.clauses j n (sym (next.others j ne) ∙ z))
    ]

    there : get_or after.of_var (v - 1) 0 ≢ 0
    there z = some_position F part i s.part_rises inside (sym next.at ∙ z)

    by_is : get_or now.of_clause i 0 ≡ (visit_at q place).by
    by_is = own_is F part m from q now v place i s a g inside is

    step : IsStep F part m from q now after i v place
    step = record {
      formula = form;
      can = s;
      visits = a;
      inside = g.inside;
      matching = g.matching;
      free = g.free;
      holds = g.holds;
      is = is;
      owns = next;
      own = by_is;
    }

    -- another clause without a variable is not on the path
    bare : (j : ℕ) → j ≢ i → get_or m.of_clause j 0 ≡ 0 → get_or after.of_clause j 0 ≡ 0
    bare j ne z = elim (cases_eq (get_or after.of_clause j 0) 0) [
      | inl y ↦ y
      | inr n ↦ absurd (g.before j (λ y. n (next.others j ne ∙ y)) z)
    ]

    bare_before : (j : ℕ) → get_or after.of_clause j 0 ≡ 0 → get_or m.of_clause j 0 ≡ 0
    bare_before j z = elim (cases_eq (get_or m.of_clause j 0) 0) [ inl y ↦ y | inr n ↦ absurd (kept_clauses j n z) ]

    ends : (visit_at q place).by ≡ 0 → IsAugmented F part from m after pos
    ends z =
        let u = root_unmatched F part m from pos s.start (a.root place g.inside z) in
        let none : get_or now.of_clause i 0 ≡ 0 = by_is ∙ z in
        record {
          longer = record {
            matching = next.matching;
            more = let c = next.more none in let b = g.same in omega (arith, c, b);
            clauses = kept_clauses;
            vars = λ k n. elim (cases_eq k (v - 1)) [
              | inl e ↦ (λ y. there (ap (λ x. get_or after.of_var x 0) (sym e) ∙ y))
              | inr ne ↦ (λ y. g.vars k ne n (sym (next.vars k ne (inl none)) ∙ y))
            ];
          };
          covered = λ R c. closed_last F part m from q now after i v place R step z some kept_clauses c (g.covers R c);
          began = u;
          others = λ p. (
            λ x. (
              record { index = x.index; inside = x.inside; is = x.is; none = bare_before x.index x.none },
              λ y. some (sym next.here ∙ ap (λ k. get_or after.of_clause k 0) (sym (rising_once 0 (length F.clauses) part x.index i s.part_rises x.inside inside (x.is ∙ y ∙ sym is))) ∙ x.none),
            ),
            λ w. record {
              index = w.0.index;
              inside = w.0.inside;
              is = w.0.is;
              none = bare w.0.index (λ y. w.1 (sym w.0.is ∙ ap (λ k. get_or part k 0) y ∙ is)) w.0.none;
            },
          );
        }

    goes : (visit_at q place).by ≢ 0 → Going F part m from q after (visit_at q place).by (visit_at q place).from
    goes n = record {
      matching = next.matching;
      inside = let e = a.earlier place g.inside n in let l = g.inside in omega (arith, e, l);
      free = ap (λ w. get_or after.of_var (w - 1) 0) (sym by_is) ∙ next.gone had;
      holds = a.holds place g.inside n;
      same = let c = next.same had in let b = g.same in omega (arith, c, b);
      agrees = λ k j l h t.
          let e = a.earlier place g.inside n in let b = g.inside in
          next.others j (λ x. let same = a.once k place (omega (arith, l, e, b)) g.inside (sym t ∙ ap (λ y. get_or part y 0) x ∙ is) in omega (arith, same, l, e))
          ∙ g.agrees k j (omega (arith, l, e)) h t;
      clauses = kept_clauses;
      before = λ j y. elim (cases_eq j i) [
        | inl e ↦ (λ z. had (old ∙ ap (λ x. get_or m.of_clause x 0) (sym e) ∙ z))
        | inr ne ↦ g.before j (λ z. y (next.others j ne ∙ z))
      ];
      vars = λ k ne y. elim (cases_eq k (v - 1)) [
        | inl e ↦ (λ z. there (ap (λ x. get_or after.of_var x 0) (sym e) ∙ z))
        | inr far ↦ (λ z. g.vars k far y (sym (next.vars k far (inr (λ x. ne (x ∙ ap (λ w. w - 1) by_is)))) ∙ z))
      ];
      covers = λ R c. closed_next F part m from q now after i v place R step c (g.covers R c);
    }
      where
        had : get_or now.of_clause i 0 ≢ 0
        had z = n (sym by_is ∙ z)

-- the steps that are left
abbrev pub steps_left : ℕ → ℕ → ℕ
steps_left v place = cond (v == 0) 0 (place + 1)

steps_none : (v place : ℕ) → v ≡ 0 → steps_left v place ≡ 0
steps_none v place z = ap (λ b. cond b 0 (place + 1)) (eq-eqb v 0 z)

steps_some : (v place : ℕ) → v ≢ 0 → steps_left v place ≡ place + 1
steps_some v place n = at_test (v == 0) refl
  where
    at_test : (b : Bool) → (v == 0) ≡ b → cond b 0 (place + 1) ≡ place + 1
    at_test true e = absurd (n (eqb-true v 0 e))
    at_test false e = refl

pub augment_falls : (F : Cnf) (part : List ℕ) (m : Matching) (from : Start) (q : List Visit) (v place : ℕ) → AreVisits F part m from q → v ≢ 0 → place < length q
    → steps_left (visit_at q place).by (visit_at q place).from < steps_left v place
augment_falls F part m from q v place a n inside =
    let here = steps_some v place n in
    elim (cases_eq (visit_at q place).by 0) [
      | inl z ↦ (let e = steps_none (visit_at q place).by (visit_at q place).from z in omega (arith, e, here))
      | inr y ↦ (let e = steps_some (visit_at q place).by (visit_at q place).from y in let l = a.earlier place inside y in omega (arith, e, here, l))
    ]
