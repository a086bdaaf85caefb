-- A search for one path: what it keeps true.
use Rattle.std.proofs.Common.{◌≡◌, ◌≢◌, ℕ, ◌+◌, ◌-◌, ◌<◌, ◌≤◌, Bool, true, false, cond, ◌==◌, ◌||◌, List, [], ◌∷◌, ◌++◌, length, get_or, refl, sym, ◌∙◌, ap, subst, arith, ◌⊎◌, inl, inr, IsTrue, length-append}
use Rattle.std.specs.List.{range_with_len}
use Rattle.std.proofs.lemmas.Bool.{eqb-true, eq-eqb, both_ways, cases_eq}
use Rattle.std.proofs.lemmas.List.{get_or_push, get_or_append_left, length-set}
use Rattle.std.proofs.lemmas.List.FromFn.{length-range_with_len}
use Rattle.lk_model.specs.Lists.{among}
use Rattle.lk_model.specs.Formulas.Literal.{mentions}
use Rattle.lk_model.specs.Formulas.Formula.{Cnf, is_formula, clause_at}
use Rattle.lk_model.specs.Held.VariableSets.{is_in, with_variable}
use Rattle.lk_model.proofs.Booleans.{or_true, or_left, or_right}
use Rattle.lk_model.proofs.Counting.{Differ-range, no_more}
use Rattle.lk_model.proofs.Founds.{in_range}
use Rattle.lk_model.proofs.Lists.{among_at}
use Rattle.lk_model.proofs.Variables.{variable_bound}
use Rattle.lk_model.proofs.VariableLists.{is_in_with}
use Rattle.bipartite_match.specs.declared.augmenting.Start.{Start}
use Rattle.bipartite_match.specs.declared.matching.Matching.{Matching}
use Rattle.bipartite_match.specs.declared.visits.Visit.{Visit}
use Rattle.bipartite_match.specs.Visiting.{no_visit, visit_at, Seen, IsRoot, goal_of, met, AreMarks, AreVisits, EndsIn, CanVisit}
use Rattle.bipartite_match.proofs.Numbers.{rising_once}
use Rattle.bipartite_match.proofs.Owning.{index_within}
use Rattle.bipartite_match.proofs.Marks.{is_some}

-- THE VARIABLES THAT WERE SEEN

seen_here : (flags : List Bool) (v : ℕ) → 0 < v → v ≤ length flags → is_in (with_variable flags v) v ≡ true
seen_here flags v first last = is_in_with flags v v first last ∙ or_right (is_in flags v) (v == v) (eq-eqb v v refl)

seen_other : (flags : List Bool) (v u : ℕ) → 0 < v → v ≤ length flags → u ≢ v → is_in (with_variable flags v) u ≡ true → is_in flags u ≡ true
seen_other flags v u first last n e = elim (or_true (is_in flags u) (v == u) (sym (is_in_with flags v u first last) ∙ e)) [
  | inl t ↦ t
  | inr s ↦ absurd (n (sym (eqb-true v u s)))
]

seen_more : (flags : List Bool) (v u : ℕ) → 0 < v → v ≤ length flags → is_in flags u ≡ true → is_in (with_variable flags v) u ≡ true
seen_more flags v u first last e = is_in_with flags v u first last ∙ or_left (is_in flags u) (v == u) e

-- A LONGER QUEUE

visit_old : (q : List Visit) (x : Visit) (k : ℕ) → k < length q → visit_at (q ++ x ∷ []) k ≡ visit_at q k
visit_old q x k l = get_or_append_left q (x ∷ []) no_visit k l

visit_new : (q : List Visit) (x : Visit) → visit_at (q ++ x ∷ []) (length q) ≡ x
visit_new q x = get_or_push q x no_visit (length q) refl

queue_more : (q : List Visit) (x : Visit) → length (q ++ x ∷ []) ≡ length q + 1
queue_more q x = let e = length-append q (x ∷ []) in omega (arith, e)

-- WHAT A SEARCH KEEPS TRUE

-- the clause at this position was visited
abbrev pub IsVisited : List Visit → ℕ → Type 0
IsVisited q p = (l : ℕ) × (l < length q) × ((visit_at q l).pos ≡ p)

abbrev pub Wanted : Start → ℕ → Bool
Wanted from v = (goal_of from == 0) || (goal_of from == v)

-- a clause was reached by the variable, or the variable is free and not looked for
abbrev pub IsDoneWith : Matching → Start → Seen → ℕ → Type 0
IsDoneWith m from s v = (is_in s.seen v ≡ true) ⊎ ((get_or m.of_var (v - 1) 0 ≡ 0) × (Wanted from v ≡ false))

pub record IsSeeking (F : Cnf) (part : List ℕ) (m : Matching) (from : Start) (s : Seen) (place : ℕ) : Type 0 where
  pub visits : AreVisits F part m from s.queue
  pub size : length s.seen ≡ F.vars
  pub going : s.end ≡ 0
  pub done : (k v : ℕ) → k < place → IsTrue (mentions (clause_at F (visit_at s.queue k).pos) v) → IsDoneWith m from s v
  pub marks : AreMarks s.queue s.seen
  pub bys : (k : ℕ) → k < length s.queue → (visit_at s.queue k).by ≢ 0 → is_in s.seen (visit_at s.queue k).by ≡ true
  pub roots : (p : ℕ) → IsRoot part m from p → IsVisited s.queue p
  pub reaches : place ≤ length s.queue

-- the clause that is matched with a marked variable was visited
pub marked_visited : (F : Cnf) (part : List ℕ) (m : Matching) (from : Start) (s : Seen) (place v : ℕ) → IsSeeking F part m from s place → is_in s.seen v ≡ true
    → IsVisited s.queue (get_or m.of_var (v - 1) 0)
marked_visited F part m from s place v h e =
    let w = h.marks.by v e in
    (w.0, w.1, sym (h.visits.mate w.0 w.1 (λ z. is_some s.seen v e (sym w.2 ∙ z))) ∙ ap (λ x. get_or m.of_var (x - 1) 0) w.2)

-- each visited clause is another one of the part, so there are no more
pub visits_fit : (F : Cnf) (part : List ℕ) (m : Matching) (from : Start) (q : List Visit) → AreVisits F part m from q → length q ≤ length part
visits_fit F part m from q a =
    let n = no_more (λ k. (visit_at q k).pos) (range_with_len 0 (length q)) part (Differ-range 0 (length q)) (record {
      into = λ k e. let w = a.some k (below k e) in subst (λ p. among part p ≡ true) w.2 (among_at part w.0 w.1);
      one = λ k l e f g. a.once k l (below k e) (below l f) g;
    }) in
    let b = length-range_with_len 0 (length q) in
    omega (arith, n, b)
  where
    below : (k : ℕ) → among (range_with_len 0 (length q)) k ≡ true → k < length q
    below k e = let b = (in_range 0 (length q) k e).1 in omega (arith, b)

-- a variable that was not seen is no visit's
not_by : (F : Cnf) (part : List ℕ) (m : Matching) (from : Start) (s : Seen) (place v k : ℕ) → CanVisit F part m from → IsSeeking F part m from s place
    → is_in s.seen v ≡ false → 0 < v → k < length s.queue → get_or m.of_var (v - 1) 0 ≢ 0 → (visit_at s.queue k).pos ≢ get_or m.of_var (v - 1) 0
not_by F part m from s place v k c h out first inside n e = elim (cases_eq (visit_at s.queue k).by 0) [
  | inl z ↦
      (let u = c.bare (visit_at s.queue k).pos (h.visits.root k inside z) in
      let same = rising_once 0 (length F.clauses) part u.index w.0 c.part_rises u.inside here (u.is ∙ e ∙ sym w.1) in
      let f = sym u.none ∙ ap (λ x. get_or m.of_clause x 0) same ∙ w.2 in omega (arith, f))
  | inr y ↦
      (let t = h.visits.mate k inside y in
      let x = c.matching.held ((visit_at s.queue k).by - 1) (λ z. n (sym (t ∙ e) ∙ z)) in
      let there : x.0 < length part = index_within F part m x.0 c.matching (λ z. let f = sym x.2 ∙ z in omega (arith, f)) in
      let same = rising_once 0 (length F.clauses) part x.0 w.0 c.part_rises there here (x.1 ∙ t ∙ e ∙ sym w.1) in
      let f = sym x.2 ∙ ap (λ i. get_or m.of_clause i 0) same ∙ w.2 in
      let is : (visit_at s.queue k).by ≡ v = omega (arith, f, y, first) in
      both_ways (is_in s.seen v) out (subst (λ i. is_in s.seen i ≡ true) is (h.bys k inside y)))
]
  where
    w : (j : ℕ) × (get_or part j 0 ≡ get_or m.of_var (v - 1) 0) × (get_or m.of_clause j 0 ≡ v - 1 + 1)
    w = c.matching.held (v - 1) n

    here : w.0 < length part
    here = index_within F part m w.0 c.matching (λ z. let f = sym w.2 ∙ z in omega (arith, f))

-- what holds once a variable was met
pub record IsMet (F : Cnf) (part : List ℕ) (m : Matching) (from : Start) (s next : Seen) (place v : ℕ) : Type 0 where
  pub marks : AreMarks next.queue next.seen
  pub size : length next.seen ≡ F.vars
  pub stops : next.end ≢ 0 → EndsIn F part m from next.queue place next.end
  pub goes : next.end ≡ 0 → IsSeeking F part m from next place × IsDoneWith m from next v × ((u : ℕ) → IsDoneWith m from s u → IsDoneWith m from next u)
      × (length s.queue ≤ length next.queue) × ((k : ℕ) → k < length s.queue → visit_at next.queue k ≡ visit_at s.queue k)

met_push : (F : Cnf) (part : List ℕ) (m : Matching) (from : Start) (s : Seen) (place v : ℕ) → CanVisit F part m from → IsSeeking F part m from s place
    → place < length s.queue → IsTrue (mentions (clause_at F (visit_at s.queue place).pos) v) → is_in s.seen v ≡ false
    → 0 < v → v ≤ F.vars → get_or m.of_var (v - 1) 0 ≢ 0
    → IsMet F part m from s (record s { seen = with_variable s.seen v; queue = s.queue ++ record { pos = get_or m.of_var (v - 1) 0; by = v; from = place } ∷ [] }) place v
met_push F part m from s place v c h inside j out first last n = record {
  marks = marked;
  size = same_size ∙ h.size;
  stops = λ y. absurd (y h.going);
  goes = λ e. (
    record {
      visits = record {
        root = λ k l z. by_place k l (λ p. (visit_at longer k).by ≡ 0 → IsRoot part m from (visit_at longer k).pos)
            (λ low t. subst (λ (y : Visit). IsRoot part m from y.pos) (sym (visit_old s.queue x k low)) (h.visits.root k low (ap (λ (y : Visit). y.by) (sym (visit_old s.queue x k low)) ∙ t)))
            (λ same t. absurd (let f = sym (ap (λ (y : Visit). y.by) (at_new k same)) ∙ t in omega (arith, f, first))) z;
        earlier = λ k l y. by_place k l (λ p. (visit_at longer k).by ≢ 0 → (visit_at longer k).from < k)
            (λ low t. subst (λ (z : Visit). z.from < k) (sym (visit_old s.queue x k low)) (h.visits.earlier k low (λ z. t (ap (λ (y : Visit). y.by) (visit_old s.queue x k low) ∙ z))))
            (λ same t. let f = ap (λ (y : Visit). y.from) (at_new k same) in omega (arith, f, same, inside)) y;
        holds = λ k l y. by_place k l (λ p. (visit_at longer k).by ≢ 0 → IsTrue (mentions (clause_at F (visit_at longer (visit_at longer k).from).pos) (visit_at longer k).by))
            (λ low t.
            let is = visit_old s.queue x k low in
            let some : (visit_at s.queue k).by ≢ 0 = λ z. t (ap (λ (y : Visit). y.by) is ∙ z) in
            let less = h.visits.earlier k low some in
            subst (λ (y : Visit). IsTrue (mentions (clause_at F (visit_at longer y.from).pos) y.by)) (sym is)
            (subst (λ (y : Visit). IsTrue (mentions (clause_at F y.pos) (visit_at s.queue k).by)) (sym (visit_old s.queue x (visit_at s.queue k).from (omega (arith, less, low)))) (h.visits.holds k low some)))
            (λ same t.
            subst (λ (y : Visit). IsTrue (mentions (clause_at F (visit_at longer y.from).pos) y.by)) (sym (at_new k same))
            (subst (λ (y : Visit). IsTrue (mentions (clause_at F y.pos) v)) (sym (visit_old s.queue x place inside)) j)) y;
        mate = λ k l y. by_place k l (λ p. (visit_at longer k).by ≢ 0 → get_or m.of_var ((visit_at longer k).by - 1) 0 ≡ (visit_at longer k).pos)
            (λ low t. subst (λ (y : Visit). get_or m.of_var (y.by - 1) 0 ≡ y.pos) (sym (visit_old s.queue x k low)) (h.visits.mate k low (λ z. t (ap (λ (y : Visit). y.by) (visit_old s.queue x k low) ∙ z))))
            (λ same t. subst (λ (y : Visit). get_or m.of_var (y.by - 1) 0 ≡ y.pos) (sym (at_new k same)) refl) y;
        some = λ k l. by_place k l (λ p. (i : ℕ) × (i < length part) × (get_or part i 0 ≡ (visit_at longer k).pos))
            (λ low. subst (λ (y : Visit). (i : ℕ) × (i < length part) × (get_or part i 0 ≡ y.pos)) (sym (visit_old s.queue x k low)) (h.visits.some k low))
            (λ same. subst (λ (y : Visit). (i : ℕ) × (i < length part) × (get_or part i 0 ≡ y.pos)) (sym (at_new k same)) partner);
        once = λ k l a b t. once k l a b t;
      };
      size = same_size ∙ h.size;
      going = h.going;
      done = λ k u l y. let low : k < length s.queue = let r = h.reaches in omega (arith, l, r) in
          more_done u (h.done k u l (subst (λ (z : Visit). IsTrue (mentions (clause_at F z.pos) u)) (visit_old s.queue x k low) y));
      marks = marked;
      bys = λ k l y. by_place k l (λ p. (visit_at longer k).by ≢ 0 → is_in (with_variable s.seen v) (visit_at longer k).by ≡ true)
          (λ low t. subst (λ (y : Visit). is_in (with_variable s.seen v) y.by ≡ true) (sym (visit_old s.queue x k low)) (more (visit_at s.queue k).by (h.bys k low (λ z. t (ap (λ (y : Visit). y.by) (visit_old s.queue x k low) ∙ z)))))
          (λ same t. subst (λ (y : Visit). is_in (with_variable s.seen v) y.by ≡ true) (sym (at_new k same)) (seen_here s.seen v first fits)) y;
      roots = λ p r. still p (h.roots p r);
      reaches = let r = h.reaches in omega (arith, r, long);
    },
    inl (seen_here s.seen v first fits),
    more_done,
    omega (arith, long),
    λ k l. visit_old s.queue x k l,
  );
}
  where
    x : Visit
    x = record { pos = get_or m.of_var (v - 1) 0; by = v; from = place }

    pushed : Seen
    pushed = record s { seen = with_variable s.seen v; queue = s.queue ++ record { pos = get_or m.of_var (v - 1) 0; by = v; from = place } ∷ [] }

    longer : List Visit
    longer = s.queue ++ record { pos = get_or m.of_var (v - 1) 0; by = v; from = place } ∷ []

    long : length longer ≡ length s.queue + 1
    long = queue_more s.queue x

    fits : v ≤ length s.seen
    fits = let e = h.size in omega (arith, last, e)

    more : (u : ℕ) → is_in s.seen u ≡ true → is_in (with_variable s.seen v) u ≡ true
    more u t = seen_more s.seen v u first fits t

    more_done : (u : ℕ) → IsDoneWith m from s u → IsDoneWith m from pushed u
    more_done u d = elim d [ inl t ↦ inl (more u t) | inr z ↦ inr z ]

    same_size : length (with_variable s.seen v) ≡ length s.seen
    same_size = length-set s.seen (v - 1) true

    at_new : (k : ℕ) → k ≡ length s.queue → visit_at longer k ≡ x
    at_new k same = ap (λ y. visit_at longer y) same ∙ visit_new s.queue x

    still : (p : ℕ) → IsVisited s.queue p → IsVisited longer p
    still p w = let l = w.1 in (w.0, omega (arith, l, long), ap (λ (y : Visit). y.pos) (visit_old s.queue x w.0 w.1) ∙ w.2)

    partner : (i : ℕ) × (i < length part) × (get_or part i 0 ≡ get_or m.of_var (v - 1) 0)
    partner = let w = c.matching.held (v - 1) n in (w.0, index_within F part m w.0 c.matching (λ z. let f = sym w.2 ∙ z in omega (arith, f)), w.1)

    by_place : (k : ℕ) → k < length longer → (P : ℕ → Type 0) → (k < length s.queue → P k) → (k ≡ length s.queue → P k) → P k
    by_place k l P old new = elim (cases_eq k (length s.queue)) [ inl same ↦ new same | inr ne ↦ old (omega (arith, l, long, ne)) ]

    marked : AreMarks longer (with_variable s.seen v)
    marked = record {
      by = λ u t. elim (cases_eq u v) [
        | inl same ↦ (length s.queue, omega (arith, long), ap (λ (y : Visit). y.by) (visit_new s.queue x) ∙ sym same)
        | inr far ↦ (let w = h.marks.by u (seen_other s.seen v u first fits far t) in let l = w.1 in (w.0, omega (arith, l, long), ap (λ (y : Visit). y.by) (visit_old s.queue x w.0 w.1) ∙ w.2))
      ];
      within = λ k l. by_place k l (λ p. (visit_at longer k).by ≤ length (with_variable s.seen v))
          (λ low. let b = h.marks.within k low in let e = ap (λ (y : Visit). y.by) (visit_old s.queue x k low) in omega (arith, b, e, same_size))
          (λ same. let e = ap (λ (y : Visit). y.by) (at_new k same) in omega (arith, e, fits, same_size));
    }

    fresh : (k : ℕ) → k < length s.queue → (visit_at s.queue k).pos ≢ get_or m.of_var (v - 1) 0
    fresh k l = not_by F part m from s place v k c h out first l n

    once : (k l : ℕ) → k < length longer → l < length longer → (visit_at longer k).pos ≡ (visit_at longer l).pos → k ≡ l
    once k l a b t = elim (cases_eq k (length s.queue)) [
      | inl here ↦ elim (cases_eq l (length s.queue)) [
        | inl there ↦ here ∙ sym there
        | inr ne ↦
            (let low : l < length s.queue = omega (arith, b, long, ne) in
            absurd (fresh l low (ap (λ (y : Visit). y.pos) (sym (visit_old s.queue x l low)) ∙ sym t ∙ ap (λ (y : Visit). y.pos) (at_new k here))))
      ]
      | inr ne ↦
          (let low : k < length s.queue = omega (arith, a, long, ne) in
          elim (cases_eq l (length s.queue)) [
            | inl there ↦ absurd (fresh k low (ap (λ (y : Visit). y.pos) (sym (visit_old s.queue x k low)) ∙ t ∙ ap (λ (y : Visit). y.pos) (at_new l there)))
            | inr far ↦
                (let under : l < length s.queue = omega (arith, b, long, far) in
                h.visits.once k l low under (ap (λ (y : Visit). y.pos) (sym (visit_old s.queue x k low)) ∙ t ∙ ap (λ (y : Visit). y.pos) (visit_old s.queue x l under)))
          ])
    ]

pub is_met : (F : Cnf) (part : List ℕ) (m : Matching) (from : Start) (s : Seen) (place v : ℕ) → IsTrue (is_formula F) → CanVisit F part m from → IsSeeking F part m from s place
    → place < length s.queue → IsTrue (mentions (clause_at F (visit_at s.queue place).pos) v) → IsMet F part m from s (met m.of_var (goal_of from) place v s) place v
is_met F part m from s place v form c h inside j = at_seen (is_in s.seen v) refl
  where
    bound : (0 < v) × (v ≤ F.vars)
    bound = variable_bound F (visit_at s.queue place).pos v form j

    pushed : Seen
    pushed = record s { seen = with_variable s.seen v; queue = s.queue ++ record { pos = get_or m.of_var (v - 1) 0; by = v; from = place } ∷ [] }

    ended : Seen
    ended = record s { end = v }

    at_seen : (b : Bool) → is_in s.seen v ≡ b → IsMet F part m from s (cond b s (cond (get_or m.of_var (v - 1) 0 == 0) (cond (Wanted from v) ended s) pushed)) place v
    at_seen true e = record {
      marks = h.marks;
      size = h.size;
      stops = λ n. absurd (n h.going);
      goes = λ z. (h, inl e, λ u t. t, omega arith, λ k l. refl);
    }
    at_seen false e = at_free (get_or m.of_var (v - 1) 0 == 0) refl
      where
        at_free : (b : Bool) → (get_or m.of_var (v - 1) 0 == 0) ≡ b → IsMet F part m from s (cond b (cond (Wanted from v) ended s) pushed) place v
        at_free true f = at_wanted (Wanted from v) refl
          where
            at_wanted : (b : Bool) → Wanted from v ≡ b → IsMet F part m from s (cond b ended s) place v
            at_wanted true g = record {
              marks = h.marks;
              size = h.size;
              stops = λ n. record {
                visits = h.visits;
                inside = inside;
                free = record { some = bound.0; most = bound.1; free = eqb-true (get_or m.of_var (v - 1) 0) 0 f };
                holds = j;
                wanted = g;
              };
              goes = λ z. let l = bound.0 in absurd (omega (arith, l, z));
            }
            at_wanted false g = record {
              marks = h.marks;
              size = h.size;
              stops = λ n. absurd (n h.going);
              goes = λ z. (h, inr (eqb-true (get_or m.of_var (v - 1) 0) 0 f, g), λ u t. t, omega arith, λ k l. refl);
            }
        at_free false f = met_push F part m from s place v c h inside j e bound.0 bound.1 (λ z. both_ways _ f (eq-eqb (get_or m.of_var (v - 1) 0) 0 z))
