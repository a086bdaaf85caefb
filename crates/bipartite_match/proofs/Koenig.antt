-- A maximum matching has a cover (König 1931): what searches from its unmatched clauses visit.
use Rattle.std.proofs.Common.{◌≡◌, ℕ, zero, suc, ◌+◌, ◌-◌, ◌<◌, ◌≤◌, Bool, true, false, List, [], ◌∷◌, ◌++◌, length, get_or, replicate, refl, sym, ◌∙◌, ap, subst, arith, ◌⊎◌, inl, inr, IsTrue, ℤ, pos, nat_lt}
use Rattle.std.proofs.lemmas.Bool.{both_ways, cases_eq, leb-true, ltb-false}
use Rattle.lk_model.specs.Lists.{among}
use Rattle.lk_model.specs.Formulas.Literal.{variable, mentions}
use Rattle.lk_model.specs.Formulas.Formula.{Cnf, is_formula, clause_at}
use Rattle.lk_model.specs.Formulas.Lean.{are_positions}
use Rattle.lk_model.proofs.Lists.{among_left, among_right, among_either}
use Rattle.bipartite_match.specs.declared.augmenting.Start.{Start}
use Rattle.bipartite_match.specs.declared.augmenting.Start.TheVariants.{Clause}
use Rattle.bipartite_match.specs.declared.matching.Matching.{Matching}
use Rattle.bipartite_match.specs.declared.visits.Visit.{Visit}
use Rattle.bipartite_match.specs.Matchings.{IsMaximum, IsUnmatched}
use Rattle.bipartite_match.specs.Covers.{HasCover, IsAugmented}
use Rattle.bipartite_match.specs.Visiting.{visit_at, Seen, goal_of, root_visit, met, AreVisits, EndsIn, HasNoEnd, CanSearch, with_own}
use Rattle.bipartite_match.proofs.AugmentedPaths.{AugmentState, can_visit, augment_goes, augment_falls, augment_starts, steps_left}
use Rattle.bipartite_match.proofs.Restoring.{positions_visited, visited_among, among_visited, visited_within}
use Rattle.bipartite_match.proofs.Roots.{AreRoots, one_root, begins}
use Rattle.bipartite_match.proofs.Seeking.{IsSeeking, visits_fit}
use Rattle.bipartite_match.proofs.Sought.{AtVisit, AfterMeeting, next_meeting, visit_done, no_end}

-- A SEARCH WITHOUT CODE

abbrev pub Ends : Cnf → List ℕ → Matching → Start → Type 0
Ends F part m from = (q : List Visit) × (place : ℕ) × (v : ℕ) × EndsIn F part m from q place v

abbrev pub EndsNot : Cnf → List ℕ → Matching → Start → Type 0
EndsNot F part m from = (q : List Visit) × HasNoEnd F part m from q

abbrev pub Scanned : Cnf → List ℕ → Matching → Start → ℕ → ℕ → List ℤ → Type 0
Scanned F part m from place p items = (s : Seen) × (n : ℕ) × AtVisit F part m from s place p items n × (length items ≤ n)

-- the literals of a clause, from the n-th on
scan : (F : Cnf) (part : List ℕ) (m : Matching) (from : Start) (s : Seen) (place p : ℕ) (items : List ℤ) (left n : ℕ) → CanSearch F part m from → IsTrue (is_formula F) → items ≡ clause_at F p
    → AtVisit F part m from s place p items n → length items ≤ n + left → Ends F part m from ⊎ Scanned F part m from place p items
scan F part m from s place p items zero n c form e a l = inr (s, n, a, omega (arith, l))
scan F part m from s place p items (suc left) n c form e a l = at_test (nat_lt n (length items)) refl
    (λ r z. scan F part m from (met m.of_var (goal_of from) place (variable (get_or items n (pos 0))) s) place p items left (n + 1) c form e (r.goes z) (omega (arith, l)))
  where
    next : Seen
    next = met m.of_var (goal_of from) place (variable (get_or items n (pos 0))) s

    at_test : (b : Bool) → nat_lt n (length items) ≡ b
        → (AfterMeeting F part m from next place p items (n + 1) → next.end ≡ 0 → Ends F part m from ⊎ Scanned F part m from place p items)
        → Ends F part m from ⊎ Scanned F part m from place p items
    at_test true t more =
        let r = next_meeting F part m from s place p (variable (get_or items n (pos 0))) items n a (can_visit F part m from c) form e (leb-true (suc n) (length items) t) refl in
        elim (cases_eq next.end 0) [
          | inl z ↦ more r z
          | inr y ↦ inl (next.queue, place, next.end, r.stops y)
        ]
    at_test false t more = inr (s, n, a, ltb-false n (length items) t)

seek : (F : Cnf) (part : List ℕ) (m : Matching) (from : Start) (s : Seen) (place fuel : ℕ) → CanSearch F part m from → IsTrue (is_formula F) → IsSeeking F part m from s place
    → length part < place + fuel → Ends F part m from ⊎ EndsNot F part m from
seek F part m from s place zero c form h f =
    let fit = visits_fit F part m from s.queue h.visits in let r = h.reaches in
    absurd (omega (arith, f, fit, r))
seek F part m from s place (suc fuel) c form h f = at_test (nat_lt place (length s.queue)) refl (λ t i. seek F part m from t (place + 1) fuel c form i (omega (arith, f)))
  where
    p : ℕ
    p = (visit_at s.queue place).pos

    at_test : (b : Bool) → nat_lt place (length s.queue) ≡ b → ((t : Seen) → IsSeeking F part m from t (place + 1) → Ends F part m from ⊎ EndsNot F part m from) → Ends F part m from ⊎ EndsNot F part m from
    at_test true e more =
        let inside = leb-true (suc place) (length s.queue) e in
        elim (scan F part m from s place p (clause_at F p) (length (clause_at F p)) 0 c form refl (record { seeking = h; is = refl; inside = inside; done = λ k l. absurd (omega (arith, l)) }) (omega arith)) [
          | inl w ↦ inl w
          | inr w ↦ more w.0 (visit_done F part m from w.0 place p (clause_at F p) w.1 w.2 refl w.3)
        ]
    at_test false e more = inr (s.queue, no_end F part m from s place h (ltb-false place (length s.queue) e))

sought : (F : Cnf) (part : List ℕ) (m : Matching) (from : Start) (q : List Visit) → CanSearch F part m from → AreRoots part m from q → IsTrue (is_formula F)
    → Ends F part m from ⊎ EndsNot F part m from
sought F part m from q c r form =
    seek F part m from (record { queue = q; seen = replicate F.vars false; end = 0 }) 0 (length part + 1) c form
    (begins F part m from (record { queue = q; seen = replicate F.vars false; end = 0 }) r refl refl) (omega arith)

-- THE EXCHANGE WITHOUT CODE

pub augment_all : (F : Cnf) (part : List ℕ) (m : Matching) (from : Start) (q : List Visit) (now : Matching) (v place root fuel : ℕ) → IsTrue (is_formula F) → CanSearch F part m from
    → AreVisits F part m from q → AugmentState F part m from q now v place root → steps_left v place < fuel → (after : Matching) × (first : ℕ) × IsAugmented F part from m after first
augment_all F part m from q now v place root zero form c a s f = absurd (omega (arith, f))
augment_all F part m from q now v place root (suc fuel) form c a s f = elim (cases_eq v 0) [
  | inl z ↦ (now, root, s.done z)
  | inr n ↦
      (let g = s.going n in
      let w = a.some place g.inside in
      let less = augment_falls F part m from q v place a n g.inside in
      augment_all F part m from q (with_own now w.0 (visit_at q place).pos v) (visit_at q place).by (visit_at q place).from (visit_at q place).pos fuel form c a
      (augment_goes F part m from q now (with_own now w.0 (visit_at q place).pos v) v place w.0 form c a g w.1 w.2 refl)
      (omega (arith, less, f)))
]

-- THE COVER

record IsClosedSet (F : Cnf) (part : List ℕ) (m : Matching) (R : List ℕ) : Type 0 where
  within : (p : ℕ) → IsTrue (among R p) → IsTrue (among part p)
  closed : (p v : ℕ) → IsTrue (among R p) → IsTrue (mentions (clause_at F p) v) → IsTrue (among R (get_or m.of_var (v - 1) 0))

-- what an unmatched clause of a maximum matching leads to
reached_set : (F : Cnf) (part : List ℕ) (m : Matching) (p : ℕ) → IsTrue (is_formula F) → are_positions F part ≡ true → IsMaximum F part m → IsUnmatched part m p
    → (R : List ℕ) × IsClosedSet F part m R × IsTrue (among R p)
reached_set F part m p form r h u = elim (sought F part m (Clause p) (root_visit p ∷ []) can (one_root part m p u) form) [
  | inl w ↦
      (let t = augment_all F part m (Clause p) w.0 m w.2 w.1 0 (suc (steps_left w.2 w.1)) form can w.3.visits (augment_starts F part m (Clause p) w.0 w.2 w.1 0 can w.3) (omega arith) in
      let less = h.most t.0 t.2.longer.matching in let more = t.2.longer.more in
      absurd (omega (arith, less, more)))
  | inr w ↦ (positions_visited w.0, record { within = visited_within F part m (Clause p) w.0 w.1.visits; closed = closed w.0 w.1 }, at w.0 w.1)
]
  where
    can : CanSearch F part m (Clause p)
    can = record { part_rises = r; matching = h.matching; start = u }

    at : (q : List Visit) → HasNoEnd F part m (Clause p) q → IsTrue (among (positions_visited q) p)
    at q e = let w = e.roots p refl in subst (λ x. among (positions_visited q) x ≡ true) w.2 (visited_among q w.0 w.1)

    closed : (q : List Visit) → HasNoEnd F part m (Clause p) q → (x v : ℕ) → IsTrue (among (positions_visited q) x) → IsTrue (mentions (clause_at F x) v)
        → IsTrue (among (positions_visited q) (get_or m.of_var (v - 1) 0))
    closed q e x v i j =
        let w = among_visited q x i in
        elim (e.closed w.0 v w.1 (subst (λ y. mentions (clause_at F y) v ≡ true) (sym w.2) j)) [
          | inl k ↦ subst (λ y. among (positions_visited q) y ≡ true) k.2 (visited_among q k.0 k.1)
          | inr z ↦ absurd (let f : ⊥ = both_ways true z.1 refl in f)
        ]

both_sets : (F : Cnf) (part : List ℕ) (m : Matching) (R S : List ℕ) → IsClosedSet F part m R → IsClosedSet F part m S → IsClosedSet F part m (R ++ S)
both_sets F part m R S a b = record {
  within = λ p e. elim (among_either R S p e) [ inl t ↦ a.within p t | inr t ↦ b.within p t ];
  closed = λ p v e j. elim (among_either R S p e) [
    | inl t ↦ among_left R S (get_or m.of_var (v - 1) 0) (a.closed p v t j)
    | inr t ↦ among_right R S (get_or m.of_var (v - 1) 0) (b.closed p v t j)
  ];
}

-- what the unmatched clauses among the first n lead to
gathered : (F : Cnf) (part : List ℕ) (m : Matching) (n : ℕ) → IsTrue (is_formula F) → are_positions F part ≡ true → IsMaximum F part m → n ≤ length part
    → (R : List ℕ) × IsClosedSet F part m R × ((i : ℕ) → i < n → get_or m.of_clause i 0 ≡ 0 → IsTrue (among R (get_or part i 0)))
gathered F part m zero form r h l = ([], record { within = λ p e. absurd (let f : ⊥ = cc in f); closed = λ p v e j. absurd (let f : ⊥ = cc in f) }, λ i k z. absurd (omega (arith, k)))
gathered F part m (suc n) form r h l =
    let w = gathered F part m n form r h (omega (arith, l)) in
    elim (cases_eq (get_or m.of_clause n 0) 0) [
      | inl z ↦
          (let s = reached_set F part m (get_or part n 0) form r h (record { index = n; inside = omega (arith, l); is = refl; none = z }) in (
            w.0 ++ s.0,
            both_sets F part m w.0 s.0 w.1 s.1,
            λ i k y. elim (cases_eq i n) [
              | inl same ↦ among_right w.0 s.0 (get_or part i 0) (subst (λ x. among s.0 (get_or part x 0) ≡ true) (sym same) s.2)
              | inr ne ↦ among_left w.0 s.0 (get_or part i 0) (w.2 i (omega (arith, k, ne)) y)
            ],
          ))
      | inr y ↦ (
        w.0,
        w.1,
        λ i k z. elim (cases_eq i n) [
          | inl same ↦ absurd (y (ap (λ x. get_or m.of_clause x 0) (sym same) ∙ z))
          | inr ne ↦ w.2 i (omega (arith, k, ne)) z
        ],
      )
    ]

pub maximum_has_cover : (F : Cnf) (part : List ℕ) (m : Matching) → IsTrue (is_formula F) → IsTrue (are_positions F part) → IsMaximum F part m → HasCover F part m
maximum_has_cover F part m form r h =
    let w = gathered F part m (length part) form r h (omega arith) in
    (w.0, record { within = w.1.within; unmatched = λ p u. subst (λ x. among w.0 x ≡ true) u.is (w.2 u.index u.inside u.none); closed = w.1.closed })
