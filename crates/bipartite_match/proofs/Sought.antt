-- How a search for one path goes on and ends, and what follows.
use Rattle.std.proofs.Common.{◌≡◌, ◌≢◌, ℕ, zero, suc, ◌+◌, ◌<◌, ◌≤◌, true, ◌==◌, ◌||◌, List, length, get_or, refl, sym, ◌∙◌, ap, subst, arith, inl, inr, IsTrue, ℤ, pos}
use Rattle.std.proofs.lemmas.Bool.{eqb-true, eq-eqb, both_ways, cases_eq}
use Rattle.lk_model.specs.Formulas.Literal.{variable, mentions}
use Rattle.lk_model.specs.Formulas.Formula.{Cnf, is_formula, clause_at}
use Rattle.lk_model.proofs.Booleans.{or_true, or_right}
use Rattle.bipartite_match.specs.declared.augmenting.Start.{Start}
use Rattle.bipartite_match.specs.declared.augmenting.Start.TheVariants.{Clause, Variable}
use Rattle.bipartite_match.specs.declared.matching.Matching.{Matching}
use Rattle.bipartite_match.specs.declared.visits.Visit.{Visit}
use Rattle.bipartite_match.specs.Ways.{LeadsTo, here, along, IsWay, HasWay}
use Rattle.bipartite_match.specs.Visiting.{visit_at, Seen, IsRoot, goal_of, met, AreMarks, AreVisits, EndsIn, HasNoEnd, CanVisit, CanSearch}
use Rattle.bipartite_match.proofs.Literals.{mentions_at, mentions_index}
use Rattle.bipartite_match.proofs.Owning.{some_position}
use Rattle.bipartite_match.proofs.Seeking.{IsVisited, IsDoneWith, IsSeeking, is_met, marked_visited}

-- The variables of the first n literals of the clause in this place are done with.
pub record AtVisit (F : Cnf) (part : List ℕ) (m : Matching) (from : Start) (s : Seen) (place p : ℕ) (items : List ℤ) (n : ℕ) : Type 0 where
  pub seeking : IsSeeking F part m from s place
  pub is : (visit_at s.queue place).pos ≡ p
  pub inside : place < length s.queue
  pub done : (k : ℕ) → k < n → IsDoneWith m from s (variable (get_or items k (pos 0)))

pub record AfterMeeting (F : Cnf) (part : List ℕ) (m : Matching) (from : Start) (next : Seen) (place p : ℕ) (items : List ℤ) (n : ℕ) : Type 0 where
  pub marks : AreMarks next.queue next.seen
  pub size : length next.seen ≡ F.vars
  pub stops : next.end ≢ 0 → EndsIn F part m from next.queue place next.end
  pub goes : next.end ≡ 0 → AtVisit F part m from next place p items n

pub next_meeting : (F : Cnf) (part : List ℕ) (m : Matching) (from : Start) (s : Seen) (place p v : ℕ) (items : List ℤ) (n : ℕ) → AtVisit F part m from s place p items n
    → CanVisit F part m from → IsTrue (is_formula F) → items ≡ clause_at F p → n < length items → v ≡ variable (get_or items n (pos 0))
    → AfterMeeting F part m from (met m.of_var (goal_of from) place v s) place p items (n + 1)
next_meeting F part m from s place p v items n a c form e h q =
    let j : mentions (clause_at F (visit_at s.queue place).pos) v ≡ true =
    subst (λ x. mentions (clause_at F x) v ≡ true) (sym a.is) (subst (λ xs. mentions xs v ≡ true) e (subst (λ x. mentions items x ≡ true) (sym q) (mentions_at items n h))) in
    let r = is_met F part m from s place v form c a.seeking a.inside j in
    record {
      marks = r.marks;
      size = r.size;
      stops = r.stops;
      goes = λ z.
          let g = r.goes z in
          record {
            seeking = g.0;
            is = ap (λ (x : Visit). x.pos) (g.4 place a.inside) ∙ a.is;
            inside = let l = g.3 in let b = a.inside in omega (arith, l, b);
            done = λ k l. elim (cases_eq k n) [
              | inl same ↦ subst (λ x. IsDoneWith m from (met m.of_var (goal_of from) place v s) x) (q ∙ ap (λ x. variable (get_or items x (pos 0))) (sym same)) g.1
              | inr ne ↦ g.2 (variable (get_or items k (pos 0))) (a.done k (omega (arith, l, ne)))
            ];
          };
    }

pub visit_done : (F : Cnf) (part : List ℕ) (m : Matching) (from : Start) (s : Seen) (place p : ℕ) (items : List ℤ) (n : ℕ) → AtVisit F part m from s place p items n
    → items ≡ clause_at F p → length items ≤ n → IsSeeking F part m from s (place + 1)
visit_done F part m from s place p items n a e h =
    let t = a.seeking in
    record {
      visits = t.visits;
      size = t.size;
      going = t.going;
      marks = t.marks;
      bys = t.bys;
      roots = t.roots;
      reaches = let l = a.inside in omega (arith, l);
      done = λ k v l j. elim (cases_eq k place) [
        | inl same ↦
            (let here = subst (λ x. mentions (clause_at F x) v ≡ true) (ap (λ y. (visit_at s.queue y).pos) same ∙ a.is) j in
            let w = mentions_index items v (subst (λ xs. mentions xs v ≡ true) (sym e) here) in
            let b = w.1 in
            subst (λ y. IsDoneWith m from s y) w.2 (a.done w.0 (omega (arith, b, h))))
        | inr ne ↦ t.done k v (omega (arith, l, ne)) j
      ];
    }

pub no_end : (F : Cnf) (part : List ℕ) (m : Matching) (from : Start) (s : Seen) (place : ℕ) → IsSeeking F part m from s place → length s.queue ≤ place → HasNoEnd F part m from s.queue
no_end F part m from s place h past = record {
  visits = h.visits;
  roots = h.roots;
  closed = λ k v l j. elim (h.done k v (omega (arith, l, past)) j) [
    | inl e ↦ inl (marked_visited F part m from s place v h e)
    | inr z ↦ inr z
  ];
}

-- THE PATH

-- a walk leads from a root to each visited clause
led : (F : Cnf) (part : List ℕ) (m : Matching) (from : Start) (q : List Visit) (fuel k : ℕ) → CanSearch F part m from → AreVisits F part m from q → k < fuel → k < length q
    → (p : ℕ) × IsRoot part m from p × LeadsTo F m.of_var p (visit_at q k).pos
led F part m from q zero k c a f l = absurd (omega (arith, f))
led F part m from q (suc fuel) k c a f l = elim (cases_eq (visit_at q k).by 0) [
  | inl z ↦ ((visit_at q k).pos, a.root k l z, here (visit_at q k).pos refl)
  | inr n ↦
      (let e = a.earlier k l n in
      let w = led F part m from q fuel (visit_at q k).from c a (omega (arith, e, f)) (omega (arith, e, l)) in
      let t = a.some k l in
      (w.0, w.1, along (visit_at q (visit_at q k).from).pos (visit_at q k).by (visit_at q k).pos w.2 (a.holds k l n) (λ z. some_position F part t.0 c.part_rises t.1 (t.2 ∙ z)) (a.mate k l n)))
]

pub way_found : (F : Cnf) (part : List ℕ) (m : Matching) (from : Start) (q : List Visit) (place v : ℕ) → CanSearch F part m from → EndsIn F part m from q place v → HasWay F part m from
way_found F part m (Clause p) q place v c e =
    let w = led F part m (Clause p) q (suc place) place c e.visits (omega arith) e.inside in (
      v,
      record {
        unmatched = c.start;
        free = e.free;
        last = (visit_at q place).pos;
        leads = subst (λ x. LeadsTo F m.of_var x (visit_at q place).pos) w.1 w.2;
        holds = e.holds;
      },
    )
way_found F part m (Variable u) q place v c e =
    let w = led F part m (Variable u) q (suc place) place c e.visits (omega arith) e.inside in
    let some = c.start.some in
    let same : u ≡ v = elim (or_true (u == 0) (u == v) e.wanted) [ inl z ↦ absurd (let f = eqb-true u 0 z in omega (arith, f, some)) | inr s ↦ eqb-true u v s ] in (
      w.0,
      record {
        unmatched = w.1;
        free = c.start;
        last = (visit_at q place).pos;
        leads = w.2;
        holds = subst (λ x. mentions (clause_at F (visit_at q place).pos) x ≡ true) (sym same) e.holds;
      },
    )

-- what a walk from a root reaches was visited
reached : (F : Cnf) (part : List ℕ) (m : Matching) (from : Start) (q : List Visit) (p r : ℕ) → HasNoEnd F part m from q → IsRoot part m from p → LeadsTo F m.of_var p r → IsVisited q r
reached F part m from q p r h root (here _ e) = h.roots r (subst (λ x. IsRoot part m from x) (sym e) root)
reached F part m from q p r h root (along s v _ leads holds n e) =
    let w = reached F part m from q p s h root leads in
    elim (h.closed w.0 v w.1 (subst (λ x. mentions (clause_at F x) v ≡ true) (sym w.2) holds)) [
      | inl t ↦ (t.0, t.1, t.2 ∙ e)
      | inr z ↦ absurd (n (sym e ∙ z.0))
    ]

no_free : (F : Cnf) (part : List ℕ) (m : Matching) (from : Start) (q : List Visit) (p v : ℕ) → CanSearch F part m from → HasNoEnd F part m from q → IsRoot part m from p
    → IsWay F part m p v → ((goal_of from == 0) || (goal_of from == v)) ≡ true → ⊥
no_free F part m from q p v c h root w wanted =
    let t = reached F part m from q p w.last h root w.leads in
    elim (h.closed t.0 v t.1 (subst (λ x. mentions (clause_at F x) v ≡ true) (sym t.2) w.holds)) [
      | inl s ↦ (let i = h.visits.some s.0 s.1 in some_position F part i.0 c.part_rises i.1 (i.2 ∙ s.2 ∙ w.free.free))
      | inr z ↦ both_ways _ z.1 wanted
    ]

pub no_way : (F : Cnf) (part : List ℕ) (m : Matching) (from : Start) (q : List Visit) → CanSearch F part m from → HasNoEnd F part m from q → HasWay F part m from → ⊥
no_way F part m (Clause p) q c h w = no_free F part m (Clause p) q p w.0 c h refl w.1 refl
no_way F part m (Variable v) q c h w = no_free F part m (Variable v) q w.0 v c h w.1.unmatched w.1 (or_right (v == 0) (v == v) (eq-eqb v v refl))
