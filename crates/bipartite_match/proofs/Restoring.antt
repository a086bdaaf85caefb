-- What one search restores: a cover but for its start becomes a cover.
use Rattle.std.proofs.Common.{◌≡◌, ◌≢◌, ℕ, zero, suc, ◌-◌, ◌<◌, true, ◌==◌, List, [], ◌∷◌, ◌++◌, length, map, get_or, refl, sym, ◌∙◌, ap, subst, arith, ◌⊎◌, inl, inr, IsTrue}
use Rattle.std.proofs.lemmas.Bool.{eqb-true, eq-eqb, both_ways, cases_eq}
use Rattle.lk_model.specs.Lists.{among}
use Rattle.lk_model.specs.Formulas.Literal.{mentions}
use Rattle.lk_model.specs.Formulas.Formula.{Cnf, is_formula, clause_at}
use Rattle.lk_model.specs.Formulas.Lean.{are_positions}
use Rattle.lk_model.proofs.Booleans.{or_true, or_right}
use Rattle.lk_model.proofs.Lists.{among_here, among_later, among_at, place_of, among_left, among_right, among_either}
use Rattle.lk_model.proofs.Variables.{variable_bound}
use Rattle.bipartite_match.specs.declared.augmenting.Start.{Start}
use Rattle.bipartite_match.specs.declared.augmenting.Start.TheVariants.{Clause, Variable}
use Rattle.bipartite_match.specs.declared.matching.Matching.{Matching}
use Rattle.bipartite_match.specs.declared.visits.Visit.{Visit}
use Rattle.bipartite_match.specs.Matchings.{IsMatching}
use Rattle.bipartite_match.specs.Covers.{IsCover, HasCover, IsOther, IsCoverBut, HasCoverBut}
use Rattle.bipartite_match.specs.Visiting.{visit_at, AreVisits, EndsIn, HasNoEnd, CanSearch}
use Rattle.bipartite_match.proofs.Numbers.{rising_once}
use Rattle.bipartite_match.proofs.Owning.{Owns, some_position, index_within}

-- what has no position is in no set of positions of the part
no_zero : (F : Cnf) (part R : List ℕ) → are_positions F part ≡ true → ((p : ℕ) → IsTrue (among R p) → IsTrue (among part p)) → (x : ℕ) → x ≡ 0 → IsTrue (among R x) → ⊥
no_zero F part R r within x z e = let w = place_of part x (within x e) in some_position F part w.0 r w.1 (w.2 ∙ z)

-- WHERE A PATH RUNS

-- From a free variable it runs in the set: all that is visited is there.
pub visits_inside : (F : Cnf) (part : List ℕ) (m : Matching) (u : ℕ) (R : List ℕ) (q : List Visit) (fuel k : ℕ) → CanSearch F part m (Variable u) → AreVisits F part m (Variable u) q
    → IsCoverBut F part m (Variable u) R → k < fuel → k < length q → among R (visit_at q k).pos ≡ true
visits_inside F part m u R q zero k s a c f l = absurd (omega (arith, f))
visits_inside F part m u R q (suc fuel) k s a c f l = elim (cases_eq (visit_at q k).by 0) [
  | inl z ↦ c.unmatched (visit_at q k).pos (a.root k l z) tt
  | inr n ↦
      (let e = a.earlier k l n in
      let up = visits_inside F part m u R q fuel (visit_at q k).from s a c (omega (arith, e, f)) (omega (arith, e, l)) in
      elim (c.closed (visit_at q (visit_at q k).from).pos (visit_at q k).by up (a.holds k l n)) [
        | inl t ↦ subst (λ x. among R x ≡ true) (a.mate k l n) t
        | inr same ↦ (let w = a.some k l in
            absurd (some_position F part w.0 s.part_rises w.1 (w.2 ∙ sym (a.mate k l n) ∙ ap (λ x. get_or m.of_var (x - 1) 0) same ∙ s.start.free)))
      ])
]

-- While a path is augmented, each variable of the set is matched in it, but for the one that is free now where the path began
-- at a variable.
abbrev pub IsFreedNow : Start → ℕ → ℕ → Type 0
IsFreedNow (Clause p) v w = ⊥
IsFreedNow (Variable u) v w = w ≡ v

abbrev pub IsClosedBut : Cnf → Start → List ℕ → Matching → ℕ → Type 0
IsClosedBut F from R now v = (x w : ℕ) → IsTrue (among R x) → IsTrue (mentions (clause_at F x) w) → IsTrue (among R (get_or now.of_var (w - 1) 0)) ⊎ IsFreedNow from v w

-- the free variable that was looked for is the one that was found
pub end_is : (F : Cnf) (part : List ℕ) (m : Matching) (u : ℕ) (q : List Visit) (place v : ℕ) → CanSearch F part m (Variable u) → EndsIn F part m (Variable u) q place v → u ≡ v
end_is F part m u q place v s e =
    let some = s.start.some in
    elim (or_true (u == 0) (u == v) e.wanted) [ inl z ↦ absurd (let f = eqb-true u 0 z in omega (arith, f, some)) | inr t ↦ eqb-true u v t ]

pub closed_first : (F : Cnf) (part : List ℕ) (m : Matching) (from : Start) (q : List Visit) (place v : ℕ) → CanSearch F part m from → EndsIn F part m from q place v
    → (R : List ℕ) → IsCoverBut F part m from R → IsClosedBut F from R m v
closed_first F part m (Clause p) q place v s e R c = λ x w r j. elim (c.closed x w r j) [ inl t ↦ inl t | inr f ↦ absurd f ]
closed_first F part m (Variable u) q place v s e R c = λ x w r j. elim (c.closed x w r j) [ inl t ↦ inl t | inr f ↦ inr (f ∙ end_is F part m u q place v s e) ]

-- the clause at index i takes v, and gives `by` up
pub record IsStep (F : Cnf) (part : List ℕ) (m : Matching) (from : Start) (q : List Visit) (now after : Matching) (i v place : ℕ) : Type 0 where
  pub formula : IsTrue (is_formula F)
  pub can : CanSearch F part m from
  pub visits : AreVisits F part m from q
  pub inside : place < length q
  pub matching : IsMatching F part now
  pub free : get_or now.of_var (v - 1) 0 ≡ 0
  pub holds : IsTrue (mentions (clause_at F (visit_at q place).pos) v)
  pub is : get_or part i 0 ≡ (visit_at q place).pos
  pub owns : Owns F part now i v after
  pub own : get_or now.of_clause i 0 ≡ (visit_at q place).by

-- another variable stays with its clause
stays : (F : Cnf) (part : List ℕ) (m : Matching) (from : Start) (q : List Visit) (now after : Matching) (i v place w : ℕ) → IsStep F part m from q now after i v place
    → 0 < w → w ≢ v → (get_or now.of_clause i 0 ≡ 0) ⊎ (w ≢ get_or now.of_clause i 0) → get_or after.of_var (w - 1) 0 ≡ get_or now.of_var (w - 1) 0
stays F part m from q now after i v place w t some ne far =
    let b = (variable_bound F (visit_at q place).pos v t.formula t.holds).0 in
    t.owns.vars (w - 1) (λ e. ne (omega (arith, e, b, some))) (elim far [
      | inl z ↦ inl z
      | inr n ↦ elim (cases_eq (get_or now.of_clause i 0) 0) [
        | inl z ↦ inl z
        | inr y ↦ inr (λ e. n (omega (arith, e, y, some)))
      ]
    ])

pub closed_next : (F : Cnf) (part : List ℕ) (m : Matching) (from : Start) (q : List Visit) (now after : Matching) (i v place : ℕ) (R : List ℕ) → IsStep F part m from q now after i v place
    → IsCoverBut F part m from R → IsClosedBut F from R now v → IsClosedBut F from R after (visit_at q place).by
closed_next F part m (Clause p) q now after i v place R t c h = λ x w r j. inl (at x w r j)
  where
    kept : (x w : ℕ) → IsTrue (among R x) → IsTrue (mentions (clause_at F x) w) → IsTrue (among R (get_or now.of_var (w - 1) 0))
    kept x w r j = elim (h x w r j) [ inl e ↦ e | inr f ↦ absurd f ]

    -- the path runs outside the set
    outside : IsTrue (among R (visit_at q place).pos) → ⊥
    outside r = no_zero F part R t.can.part_rises c.within (get_or now.of_var (v - 1) 0) t.free (kept (visit_at q place).pos v r t.holds)

    at : (x w : ℕ) → IsTrue (among R x) → IsTrue (mentions (clause_at F x) w) → IsTrue (among R (get_or after.of_var (w - 1) 0))
    at x w r j =
        let some = (variable_bound F x w t.formula j).0 in
        let e = kept x w r j in
        subst (λ y. among R y ≡ true) (sym (stays F part m (Clause p) q now after i v place w t some
        (λ s. no_zero F part R t.can.part_rises c.within (get_or now.of_var (w - 1) 0) (ap (λ y. get_or now.of_var (y - 1) 0) s ∙ t.free) e)
        (elim (cases_eq (get_or now.of_clause i 0) 0) [
          | inl z ↦ inl z
          | inr y ↦ inr (λ s. outside (subst (λ z. among R z ≡ true) (ap (λ z. get_or now.of_var (z - 1) 0) s ∙ t.matching.paired i y ∙ t.is) e))
        ]))) e
closed_next F part m (Variable u) q now after i v place R t c h = λ x w r j. at x w r j
  where
    here : IsTrue (among R (visit_at q place).pos)
    here = visits_inside F part m u R q (suc place) place t.can t.visits c (omega arith) t.inside

    at : (x w : ℕ) → IsTrue (among R x) → IsTrue (mentions (clause_at F x) w) → IsTrue (among R (get_or after.of_var (w - 1) 0)) ⊎ (w ≡ (visit_at q place).by)
    at x w r j = elim (cases_eq w v) [
      | inl s ↦ inl (subst (λ y. among R y ≡ true) (sym (ap (λ y. get_or after.of_var (y - 1) 0) s ∙ t.owns.at ∙ t.is)) here)
      | inr ne ↦ elim (h x w r j) [
        | inr s ↦ absurd (ne s)
        | inl e ↦ elim (cases_eq w (get_or now.of_clause i 0)) [
          | inl s ↦ inr (s ∙ t.own)
          | inr far ↦ inl (subst (λ y. among R y ≡ true) (sym (stays F part m (Variable u) q now after i v place w t (variable_bound F x w t.formula j).0 ne (inr far))) e)
        ]
      ]
    ]

-- at the end of the path
pub closed_last : (F : Cnf) (part : List ℕ) (m : Matching) (from : Start) (q : List Visit) (now after : Matching) (i v place : ℕ) (R : List ℕ) → IsStep F part m from q now after i v place
    → (visit_at q place).by ≡ 0 → v ≢ 0 → ((j : ℕ) → get_or m.of_clause j 0 ≢ 0 → get_or after.of_clause j 0 ≢ 0)
    → IsCoverBut F part m from R → IsClosedBut F from R now v → IsCover F part after R
closed_last F part m from q now after i v place R t z some more c h = record {
  within = c.within;
  unmatched = λ p a. elim (cases_eq (get_or m.of_clause a.index 0) 0) [
    | inl y ↦ c.unmatched p (record { index = a.index; inside = a.inside; is = a.is; none = y }) (other from p t a.index a.inside a.is a.none)
    | inr n ↦ absurd (more a.index n a.none)
  ];
  closed = λ x w r j. elim (closed_next F part m from q now after i v place R t c h x w r j) [
    | inl e ↦ e
    | inr f ↦ absurd (none from w f (variable_bound F x w t.formula j).0)
  ];
}
  where
    none : (s : Start) (w : ℕ) → IsFreedNow s (visit_at q place).by w → 0 < w → ⊥
    none (Clause p) w f l = f
    none (Variable u) w f l = omega (arith, f, z, l)

    -- the clause at which the path begins has a variable now
    other : (s : Start) (p : ℕ) → IsStep F part m s q now after i v place → (j : ℕ) → j < length part → get_or part j 0 ≡ p → get_or after.of_clause j 0 ≡ 0 → IsOther s p
    other (Clause p) x k j l e y = λ same. some (sym k.owns.here ∙ ap (λ n. get_or after.of_clause n 0) (sym (begins k j l (e ∙ same ∙ sym (k.visits.root place k.inside z)))) ∙ y)
      where
        begins : IsStep F part m (Clause p) q now after i v place → (n : ℕ) → n < length part → get_or part n 0 ≡ (visit_at q place).pos → n ≡ i
        begins k n l e = rising_once 0 (length F.clauses) part n i k.can.part_rises l (index_within F part after i k.owns.matching (λ y. some (sym k.owns.here ∙ y))) (e ∙ sym k.is)
    other (Variable u) x k j l e y = tt

-- WHERE NO PATH LEADS ON

pub positions_visited : List Visit → List ℕ
positions_visited q = map (λ (x : Visit). x.pos) q

pub positions_are : (q : List Visit) → positions_visited q ≡ map (λ (x : Visit). x.pos) q
unfolding positions_visited
positions_are q = refl

pub visited_among : (q : List Visit) (k : ℕ) → k < length q → among (positions_visited q) (visit_at q k).pos ≡ true
unfolding positions_visited
visited_among [] k l = absurd (omega (arith, l))
visited_among (x ∷ q) zero l = among_here x.pos (map (λ (y : Visit). y.pos) q)
visited_among (x ∷ q) (suc k) l = among_later x.pos (visit_at q k).pos (map (λ (y : Visit). y.pos) q) (visited_among q k (omega (arith, l)))

pub among_visited : (q : List Visit) (p : ℕ) → among (positions_visited q) p ≡ true → (k : ℕ) × (k < length q) × ((visit_at q k).pos ≡ p)
unfolding positions_visited
among_visited [] p e = absurd (let f : ⊥ = cc in f)
among_visited (x ∷ q) p e = elim (or_true (x.pos == p) (among (positions_visited q) p) e) [
  | inl s ↦ (0, omega arith, eqb-true x.pos p s)
  | inr t ↦ (let w = among_visited q p t in let l = w.1 in (suc w.0, omega (arith, l), w.2))
]

pub visited_within : (F : Cnf) (part : List ℕ) (m : Matching) (from : Start) (q : List Visit) → AreVisits F part m from q → (p : ℕ) → IsTrue (among (positions_visited q) p) → IsTrue (among part p)
visited_within F part m from q a p e =
    let w = among_visited q p e in
    let i = a.some w.0 w.1 in
    subst (λ x. among part x ≡ true) (i.2 ∙ w.2) (among_at part i.0 i.1)

-- the clauses that were visited, and the others of the cover
pub covers_more : (F : Cnf) (part : List ℕ) (m : Matching) (p : ℕ) (R : List ℕ) (q : List Visit) → HasNoEnd F part m (Clause p) q → IsCoverBut F part m (Clause p) R
    → IsCover F part m (positions_visited q ++ R)
covers_more F part m p R q h c = record {
  within = λ x e. elim (among_either (positions_visited q) R x e) [ inl t ↦ visited_within F part m (Clause p) q h.visits x t | inr t ↦ c.within x t ];
  unmatched = λ x u. elim (cases_eq x p) [
    | inl s ↦ (let w = h.roots p refl in among_left (positions_visited q) R x (subst (λ y. among (positions_visited q) y ≡ true) (w.2 ∙ sym s) (visited_among q w.0 w.1)))
    | inr ne ↦ among_right (positions_visited q) R x (c.unmatched x u ne)
  ];
  closed = λ x v e j. elim (among_either (positions_visited q) R x e) [
    | inl t ↦
        (let w = among_visited q x t in
        elim (h.closed w.0 v w.1 (subst (λ y. mentions (clause_at F y) v ≡ true) (sym w.2) j)) [
          | inl k ↦ among_left (positions_visited q) R (get_or m.of_var (v - 1) 0) (subst (λ y. among (positions_visited q) y ≡ true) k.2 (visited_among q k.0 k.1))
          | inr z ↦ absurd (let f : ⊥ = both_ways true z.1 refl in f)
        ])
    | inr t ↦ elim (c.closed x v t j) [
      | inl r ↦ among_right (positions_visited q) R (get_or m.of_var (v - 1) 0) r
      | inr f ↦ absurd f
    ]
  ];
}

-- only those that were visited
pub covers_less : (F : Cnf) (part : List ℕ) (m : Matching) (u : ℕ) (R : List ℕ) (q : List Visit) → CanSearch F part m (Variable u) → HasNoEnd F part m (Variable u) q → IsCoverBut F part m (Variable u) R
    → IsCover F part m (positions_visited q)
covers_less F part m u R q s h c = record {
  within = visited_within F part m (Variable u) q h.visits;
  unmatched = λ x n. let w = h.roots x n in subst (λ y. among (positions_visited q) y ≡ true) w.2 (visited_among q w.0 w.1);
  closed = λ x v e j.
      let w = among_visited q x e in
      let held = subst (λ y. mentions (clause_at F y) v ≡ true) (sym w.2) j in
      elim (h.closed w.0 v w.1 held) [
        | inl k ↦ subst (λ y. among (positions_visited q) y ≡ true) k.2 (visited_among q k.0 k.1)
        | inr z ↦ elim (c.closed x v (subst (λ y. among R y ≡ true) w.2 (visits_inside F part m u R q (suc w.0) w.0 s h.visits c (omega arith) w.1)) j) [
          | inl r ↦ absurd (no_zero F part R s.part_rises c.within (get_or m.of_var (v - 1) 0) z.0 r)
          | inr same ↦ absurd (both_ways _ z.1 (or_right (u == 0) (u == v) (eq-eqb u v (sym same))))
        ]
      ];
}

pub covers_without : (F : Cnf) (part : List ℕ) (m : Matching) (from : Start) (q : List Visit) → CanSearch F part m from → HasNoEnd F part m from q → HasCoverBut F part m from → HasCover F part m
covers_without F part m (Clause p) q s h c = (positions_visited q ++ c.0, covers_more F part m p c.0 q h c.1)
covers_without F part m (Variable u) q s h c = (positions_visited q, covers_less F part m u c.0 q s h c.1)
