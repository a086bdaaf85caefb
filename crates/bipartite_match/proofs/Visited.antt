-- What a search from all unmatched clauses of a maximum matching visits is what alternating walks reach.
use Rattle.std.proofs.Common.{◌≡◌, ◌≢◌, ℕ, zero, suc, ◌+◌, ◌-◌, ◌<◌, ◌≤◌, Bool, true, false, cond, ◌==◌, ◌||◌, List, [], ◌∷◌, length, get_or, map, refl, sym, ◌∙◌, ap, subst, arith, inl, inr, IsTrue, nat_lt, nat_eq}
use Rattle.std.specs.List.{range_with_len, dedup}
use Rattle.std.specs.List.Sorted.{IsSorted, IsPermutation}
use Rattle.std.specs.Ordering.{nat_cmp}
use Rattle.std.proofs.lemmas.Bool.{eqb-true, eq-eqb, both_ways, cases_eq, leb-true, le-leb, ltb-false}
use Rattle.std.proofs.lemmas.List.{length-map, get_or_past}
use Rattle.std.proofs.lemmas.List.FromFn.{length-range_with_len, get_or-map-range_with_len}
use Rattle.lk_model.specs.Lists.{among}
use Rattle.lk_model.specs.Formulas.Literal.{mentions}
use Rattle.lk_model.specs.Formulas.Formula.{Cnf, is_formula, clause_at, variable_occurs}
use Rattle.lk_model.specs.Formulas.Lean.{are_positions}
use Rattle.lk_model.proofs.Booleans.{or_right}
use Rattle.lk_model.proofs.Lists.{among_at}
use Rattle.lk_model.proofs.Variables.{variable_bound, occurs, position_with}
use Rattle.bipartite_match.specs.declared.augmenting.Start.TheVariants.{Variable}
use Rattle.bipartite_match.specs.declared.matching.Matching.{Matching}
use Rattle.bipartite_match.specs.declared.visits.Visit.{Visit}
use Rattle.bipartite_match.specs.declared.walk.Reached.{Reached}
use Rattle.bipartite_match.specs.Matchings.{IsMatching, IsMaximum}
use Rattle.bipartite_match.specs.Walks.{Reaches, unmatched, along, IsEscape, IsReached, AreReached}
use Rattle.bipartite_match.specs.Visiting.{visit_at, AreVisits, EndsIn, HasNoEnd, CanSearch}
use Rattle.bipartite_match.proofs.AugmentedPaths.{augment_starts, steps_left}
use Rattle.bipartite_match.proofs.Deduped.{deduped_same, deduped_rises}
use Rattle.bipartite_match.proofs.Koenig.{augment_all}
use Rattle.bipartite_match.proofs.Literals.{position_in}
use Rattle.bipartite_match.proofs.Numbers.{within, rising_once}
use Rattle.bipartite_match.proofs.Owning.{some_position, index_within}
use Rattle.bipartite_match.proofs.Restoring.{positions_are, visited_among, among_visited}
use Rattle.bipartite_match.proofs.Seeking.{IsVisited, visits_fit}

-- It meets no free variable: from its roots on to one, a path would lead.
pub meets_none : (F : Cnf) (part : List ℕ) (m : Matching) (q : List Visit) (place v : ℕ) → IsTrue (is_formula F) → IsTrue (are_positions F part) → IsMaximum F part m
    → EndsIn F part m (Variable 0) q place v → ⊥
meets_none F part m q place v form rises most e =
    let t = augment_all F part m (Variable v) q m v place 0 (suc (steps_left v place)) form can ends.visits (augment_starts F part m (Variable v) q v place 0 can ends) (omega arith) in
    let less = most.most t.0 t.2.longer.matching in let more = t.2.longer.more in omega (arith, less, more)
  where
    can : CanSearch F part m (Variable v)
    can = record { part_rises = rises; matching = most.matching; start = e.free }

    ends : EndsIn F part m (Variable v) q place v
    ends = record {
      visits = record { root = e.visits.root; earlier = e.visits.earlier; holds = e.visits.holds; mate = e.visits.mate; some = e.visits.some; once = e.visits.once };
      inside = e.inside;
      free = e.free;
      holds = e.holds;
      wanted = let b = e.free.some in wanted_self v b;
    }
      where
        wanted_self : (v : ℕ) → 0 < v → IsTrue ((v == 0) || (v == v))
        wanted_self v b = or_right (v == 0) (v == v) (eq-eqb v v refl)

-- THE PLACE AT WHICH A VARIABLE LED TO A CLAUSE

-- the length of the queue where it led to none
place_by : List Visit → ℕ → ℕ
place_by [] v = 0
place_by (x ∷ q) v = cond (x.by == v) 0 (suc (place_by q v))

place_is : (q : List Visit) (v : ℕ) → place_by q v < length q → (visit_at q (place_by q v)).by ≡ v
unfolding place_by
place_is [] v l = absurd (omega (arith, l))
place_is (x ∷ q) v l = at_test (place_is q v) (x.by == v) refl l
  where
    at_test : (place_by q v < length q → (visit_at q (place_by q v)).by ≡ v) → (b : Bool) → (x.by == v) ≡ b → cond b 0 (suc (place_by q v)) < suc (length q)
        → (visit_at (x ∷ q) (cond b 0 (suc (place_by q v)))).by ≡ v
    at_test later true e h = eqb-true x.by v e
    at_test later false e h = later (omega (arith, h))

place_within : (q : List Visit) (v k : ℕ) → k < length q → (visit_at q k).by ≡ v → place_by q v < length q
unfolding place_by
place_within [] v k l e = absurd (omega (arith, l))
place_within (x ∷ q) v zero l e = rw (eq-eqb x.by v e) (let z : 0 < suc (length q) = omega arith in z)
place_within (x ∷ q) v (suc k) l e = at_test (place_within q v k (omega (arith, l)) e) (x.by == v)
  where
    at_test : place_by q v < length q → (b : Bool) → cond b 0 (suc (place_by q v)) < suc (length q)
    at_test h true = omega arith
    at_test h false = omega (arith, h)

-- A number for each variable: a function of that place, and 0 where there is none.
number_by : List Visit → (ℕ → ℕ) → ℕ → ℕ
number_by q g v = cond (nat_lt (place_by q v) (length q)) (g (place_by q v)) 0

numbers_by : List Visit → (ℕ → ℕ) → ℕ → List ℕ
numbers_by q g n = map (λ v. number_by q g v) (range_with_len 1 n)

numbers_long : (q : List Visit) (g : ℕ → ℕ) (n : ℕ) → length (numbers_by q g n) ≡ n
unfolding numbers_by
numbers_long q g n = length-map (range_with_len 1 n) (λ v. number_by q g v) ∙ length-range_with_len 1 n

number_read : (q : List Visit) (g : ℕ → ℕ) (n v : ℕ) → 0 < v → v ≤ n → get_or (numbers_by q g n) (v - 1) 0 ≡ number_by q g v
unfolding numbers_by
number_read q g n v some most = get_or-map-range_with_len (λ w. number_by q g w) 1 n (v - 1) v 0 (omega (arith, some, most)) (omega (arith, some))

number_there : (q : List Visit) (g : ℕ → ℕ) (v : ℕ) → place_by q v < length q → number_by q g v ≡ g (place_by q v)
unfolding number_by place_by
number_there q g v l = rw (le-leb (suc (place_by q v)) (length q) l) refl

-- what holds of the number of each place, and of 0, holds of all
numbers_all : (q : List Visit) (g : ℕ → ℕ) (n k : ℕ) (P : ℕ → Type 0) → P 0 → ((v : ℕ) → v ≡ k + 1 → place_by q v < length q → P (g (place_by q v))) → P (get_or (numbers_by q g n) k 0)
unfolding number_by place_by
numbers_all q g n k P none some = at_size (nat_lt k n) refl
  where
    at_place : (b : Bool) → nat_lt (place_by q (k + 1)) (length q) ≡ b → P (cond b (g (place_by q (k + 1))) 0)
    at_place true e = some (k + 1) refl (leb-true (suc (place_by q (k + 1))) (length q) e)
    at_place false e = none

    at_size : (b : Bool) → nat_lt k n ≡ b → P (get_or (numbers_by q g n) k 0)
    at_size true e =
        let l = leb-true (suc k) n e in
        let same : k + 1 - 1 ≡ k = omega arith in
        subst P (sym (ap (λ j. get_or (numbers_by q g n) j 0) (sym same) ∙ number_read q g n (k + 1) (omega arith) (omega (arith, l)))) (at_place _ refl)
    at_size false e =
        let past = ltb-false k n e in let long = numbers_long q g n in
        subst P (sym (get_or_past (numbers_by q g n) k 0 (omega (arith, past, long)))) none

-- ALL TOGETHER

-- what is known of the positions that were visited
pub record AreVisited (F : Cnf) (q : List Visit) (kept : List ℕ) : Type 0 where
  pub positions : IsTrue (are_positions F kept)
  pub visited : (p : ℕ) → IsTrue (among kept p) → IsVisited q p
  pub all : (k : ℕ) → k < length q → IsTrue (among kept (visit_at q k).pos)

-- the escape is the clause that contains the variable, and the rank its clause's place
pub with_escapes : Cnf → List Visit → List ℕ → Reached
with_escapes F q kept = record {
  kept = kept;
  escape = numbers_by q (λ k. (visit_at q (visit_at q k).from).pos) F.vars;
  rank = numbers_by q (λ k. k) F.vars;
}

pub visited_reached : (F : Cnf) (part : List ℕ) (m : Matching) (q : List Visit) (kept : List ℕ) → IsTrue (is_formula F) → IsTrue (are_positions F part) → IsMaximum F part m
    → HasNoEnd F part m (Variable 0) q → AreVisited F q kept → IsReached F part m (with_escapes F q kept)
unfolding with_escapes
visited_reached F part m q kept form rises most h are = record {
  positions = are.positions;
  within = λ p a. let w = are.visited p a in let i = h.visits.some w.0 w.1 in subst (λ x. among part x ≡ true) (i.2 ∙ w.2) (among_at part i.0 i.1);
  exactly = λ i l. (
    λ a. let w = are.visited (get_or part i 0) a in walked (suc w.0) w.0 i (omega arith) w.1 l (sym w.2),
    λ r. let w = arrived i r in subst (λ p. among kept p ≡ true) w.2 (are.all w.0 w.1),
  );
  escapes = numbers_long q (λ k. (visit_at q (visit_at q k).from).pos) F.vars;
  ranks = numbers_long q (λ k. k) F.vars;
  few = λ k. numbers_all q (λ j. j) F.vars k (λ n. n ≤ length part) (omega arith)
      (λ v e l. let f = visits_fit F part m (Variable 0) q h.visits in omega (arith, l, f));
  each = λ v u. let w = position_with F kept v u in escape_at v w.0 w.1 w.2;
  others = λ v some u. (
    numbers_all q (λ k. (visit_at q (visit_at q k).from).pos) F.vars (v - 1) (λ n. n ≡ 0) refl (λ w e l. absurd (no_place v w some u e l)),
    numbers_all q (λ k. k) F.vars (v - 1) (λ n. n ≡ 0) refl (λ w e l. absurd (no_place v w some u e l)),
  );
}
  where
    match : IsMatching F part m
    match = most.matching

    -- the index of the clause that has a variable
    owner : (v p : ℕ) → 0 < v → p ≢ 0 → get_or m.of_var (v - 1) 0 ≡ p → (i : ℕ) × (i < length part) × (get_or part i 0 ≡ p) × (get_or m.of_clause i 0 ≡ v)
    owner v p some n e =
        let w = match.held (v - 1) (λ z. n (sym e ∙ z)) in
        let c : get_or m.of_clause w.0 0 ≡ v = let f = w.2 in omega (arith, f, some) in
        (w.0, index_within F part m w.0 match (λ z. let f = sym c ∙ z in omega (arith, f, some)), w.1 ∙ e, c)

    same_index : (i j : ℕ) → i < length part → j < length part → get_or part i 0 ≡ get_or part j 0 → i ≡ j
    same_index i j a b e = rising_once 0 (length F.clauses) part i j rises a b e

    -- the visit of the clause that has a variable came by this variable
    by_is : (k v : ℕ) → k < length q → 0 < v → get_or m.of_var (v - 1) 0 ≡ (visit_at q k).pos → (visit_at q k).by ≡ v
    by_is k v l some e =
        let x = h.visits.some k l in
        let n : (visit_at q k).pos ≢ 0 = λ z. some_position F part x.0 rises x.1 (x.2 ∙ z) in
        let o = owner v (visit_at q k).pos some n e in
        elim (cases_eq (visit_at q k).by 0) [
          | inl z ↦
              (let u = h.visits.root k l z in
              let f = sym o.3 ∙ ap (λ i. get_or m.of_clause i 0) (same_index o.0 u.index o.1 u.inside (o.2 ∙ sym u.is)) ∙ u.none in
              absurd (omega (arith, f, some)))
          | inr y ↦
              (let t = owner (visit_at q k).by (visit_at q k).pos (omega (arith, y)) n (h.visits.mate k l y) in
              sym t.3 ∙ ap (λ i. get_or m.of_clause i 0) (same_index t.0 o.0 t.1 o.1 (t.2 ∙ sym o.2)) ∙ o.3)
        ]

    -- a variable of a visited clause led to a clause
    led_by : (k v : ℕ) → k < length q → IsTrue (mentions (clause_at F (visit_at q k).pos) v) → (place_by q v < length q) × (0 < v) × (v ≤ F.vars)
    led_by k v l j =
        let b = variable_bound F (visit_at q k).pos v form j in
        elim (h.closed k v l j) [
          | inl t ↦ (place_within q v t.0 t.1 (by_is t.0 v t.1 b.0 (sym t.2)), b.0, b.1)
          | inr z ↦ absurd (let f : ⊥ = both_ways true z.1 refl in f)
        ]

    -- there is one such visit
    one_place : (k v : ℕ) → k < length q → 0 < v → (visit_at q k).by ≡ v → place_by q v ≡ k
    one_place k v l some e =
        let w = place_within q v k l e in
        let i = place_is q v w in
        let a = h.visits.mate k l (λ z. let f = sym e ∙ z in omega (arith, f, some)) in
        let b = h.visits.mate (place_by q v) w (λ z. let f = sym i ∙ z in omega (arith, f, some)) in
        h.visits.once (place_by q v) k w l (sym b ∙ ap (λ x. get_or m.of_var (x - 1) 0) (i ∙ sym e) ∙ a)

    -- a walk leads to each visited clause
    walked : (fuel k i : ℕ) → k < fuel → k < length q → i < length part → get_or part i 0 ≡ (visit_at q k).pos → Reaches F part m.of_clause i
    walked zero k i f l s e = absurd (omega (arith, f))
    walked (suc fuel) k i f l s e = elim (cases_eq (visit_at q k).by 0) [
      | inl z ↦ (let u = h.visits.root k l z in unmatched i s (ap (λ x. get_or m.of_clause x 0) (same_index i u.index s u.inside (e ∙ sym u.is)) ∙ u.none))
      | inr n ↦
          (let g = h.visits.earlier k l n in
          let x = h.visits.some (visit_at q k).from (omega (arith, g, l)) in
          let y = h.visits.some k l in
          let o = owner (visit_at q k).by (visit_at q k).pos (omega (arith, n)) (λ z. some_position F part y.0 rises y.1 (y.2 ∙ z)) (h.visits.mate k l n) in
          let c : get_or m.of_clause i 0 ≡ (visit_at q k).by = ap (λ j. get_or m.of_clause j 0) (same_index i o.0 s o.1 (e ∙ sym o.2)) ∙ o.3 in
          along x.0 i (walked fuel (visit_at q k).from x.0 (omega (arith, g, f)) (omega (arith, g, l)) x.1 x.2) s (λ z. n (sym c ∙ z))
          (subst (λ p. mentions (clause_at F p) (get_or m.of_clause i 0) ≡ true) (sym x.2)
          (subst (λ v. mentions (clause_at F (visit_at q (visit_at q k).from).pos) v ≡ true) (sym c) (h.visits.holds k l n))))
    ]

    -- what a walk leads to is visited
    arrived : (i : ℕ) → Reaches F part m.of_clause i → IsVisited q (get_or part i 0)
    arrived i (unmatched _ l z) = h.roots (get_or part i 0) (record { index = i; inside = l; is = refl; none = z })
    arrived j (along i _ r l n t) =
        let w = arrived i r in
        elim (h.closed w.0 (get_or m.of_clause j 0) w.1 (subst (λ p. mentions (clause_at F p) (get_or m.of_clause j 0) ≡ true) (sym w.2) t)) [
          | inl s ↦ (s.0, s.1, s.2 ∙ match.paired j n)
          | inr z ↦ absurd (let f : ⊥ = both_ways true z.1 refl in f)
        ]

    no_place : (v w : ℕ) → 0 < v → variable_occurs F kept v ≡ false → w ≡ v - 1 + 1 → place_by q w < length q → ⊥
    no_place v w some u e l =
        let same : w ≡ v = omega (arith, e, some) in
        let i = place_is q w l ∙ same in
        let n : (visit_at q (place_by q w)).by ≢ 0 = λ z. (let f = sym i ∙ z in omega (arith, f, some)) in
        let g = h.visits.earlier (place_by q w) l n in
        both_ways _ u (occurs F kept (visit_at q (visit_at q (place_by q w)).from).pos v (are.all (visit_at q (place_by q w)).from (omega (arith, g, l)))
        (subst (λ x. mentions (clause_at F (visit_at q (visit_at q (place_by q w)).from).pos) x ≡ true) i (h.visits.holds (place_by q w) l n)))

    escape_at : (v p : ℕ) → IsTrue (among kept p) → IsTrue (mentions (clause_at F p) v) → IsEscape F m (with_escapes F q kept) v
    escape_at v p a j =
        let s = are.visited p a in
        let b = led_by s.0 v s.1 (subst (λ x. mentions (clause_at F x) v ≡ true) (sym s.2) j) in
        let l = b.0 in let some = b.1 in let fits = b.2 in
        let k = place_by q v in
        let i : (visit_at q k).by ≡ v = place_is q v l in
        let n : (visit_at q k).by ≢ 0 = λ z. (let f = sym i ∙ z in omega (arith, f, some)) in
        let g = h.visits.earlier k l n in
        let low : (visit_at q k).from < length q = omega (arith, g, l) in
        let mate : get_or m.of_var (v - 1) 0 ≡ (visit_at q k).pos = ap (λ x. get_or m.of_var (x - 1) 0) (sym i) ∙ h.visits.mate k l n in
        let x = h.visits.some k l in
        let o = owner v (visit_at q k).pos some (λ z. some_position F part x.0 rises x.1 (x.2 ∙ z)) mate in
        let y : get_or m.of_clause o.0 0 ≢ 0 = λ z. (let f = sym o.3 ∙ z in omega (arith, f, some)) in
        let way = number_read q (λ k. (visit_at q (visit_at q k).from).pos) F.vars v some fits ∙ number_there q (λ k. (visit_at q (visit_at q k).from).pos) v l in
        let rank = number_read q (λ k. k) F.vars v some fits ∙ number_there q (λ k. k) v l in
        record {
          own = (
            subst (λ x. among kept x ≡ true) (sym mate) (are.all k l),
            subst (λ x. mentions (clause_at F x) v ≡ true) (o.2 ∙ sym mate) (subst (λ w. mentions (clause_at F (get_or part o.0 0)) w ≡ true) o.3 (match.joined o.0 y)),
          );
          escape = (
            subst (λ x. among kept x ≡ true) (sym way) (are.all (visit_at q k).from low),
            subst (λ x. mentions (clause_at F x) v ≡ true) (sym way) (subst (λ w. mentions (clause_at F (visit_at q (visit_at q k).from).pos) w ≡ true) i (h.visits.holds k l n)),
          );
          rank = λ w first e.
              let t = by_is (visit_at q k).from w low first (e ∙ way) in
              let there = one_place (visit_at q k).from w low first t in
              let z = h.visits.some (visit_at q k).from low in
              let inner = within m.of_var (w - 1) (λ f. some_position F part z.0 rises z.1 (z.2 ∙ sym (e ∙ way) ∙ f)) in
              let vars = match.vars in
              let less = number_read q (λ k. k) F.vars w first (omega (arith, inner, vars, first)) ∙ number_there q (λ k. k) w (omega (arith, there, low)) in
              omega (arith, less, rank, there, g);
        }

-- the positions of the visits, sorted and each once
pub sorted_visited : (F : Cnf) (part : List ℕ) (m : Matching) (q : List Visit) (sorted : List ℕ) → IsTrue (is_formula F) → IsTrue (are_positions F part)
    → AreVisits F part m (Variable 0) q → IsPermutation (map (λ (x : Visit). x.pos) q) sorted → IsSorted nat_cmp sorted → AreVisited F q (dedup nat_eq sorted)
sorted_visited F part m q sorted form rises visits permuted up = record {
  positions = deduped_rises (length F.clauses) (map (λ (x : Visit). x.pos) q) sorted permuted up
      (λ p e. let w = visited p e in let i = visits.some w.0 w.1 in subst (λ x. (0 < x) × (x ≤ length F.clauses)) (i.2 ∙ w.2) (position_in F part i.0 rises i.1));
  visited = λ p e. visited p (sym (deduped_same (map (λ (x : Visit). x.pos) q) sorted p permuted) ∙ e);
  all = λ k l. deduped_same (map (λ (x : Visit). x.pos) q) sorted (visit_at q k).pos permuted
      ∙ sym (ap (λ ps. among ps (visit_at q k).pos) (positions_are q)) ∙ visited_among q k l;
}
  where
    visited : (p : ℕ) → among (map (λ (x : Visit). x.pos) q) p ≡ true → IsVisited q p
    visited p e = among_visited q p (ap (λ ps. among ps p) (positions_are q) ∙ e)

pub reached_all : (F : Cnf) (part : List ℕ) (m : Matching) (v place : ℕ) (q : List Visit) (sorted kept : List ℕ) → IsTrue (is_formula F) → IsTrue (are_positions F part) → IsMaximum F part m
    → (v ≢ 0 → EndsIn F part m (Variable 0) q place v) → (v ≡ 0 → HasNoEnd F part m (Variable 0) q)
    → IsPermutation (map (λ (x : Visit). x.pos) q) sorted → IsSorted nat_cmp sorted → kept ≡ dedup nat_eq sorted → AreReached F part m kept
unfolding with_escapes
reached_all F part m v place q sorted kept form rises most found nothing permuted up e = (
  with_escapes F q (dedup nat_eq sorted),
  sym e,
  visited_reached F part m q (dedup nat_eq sorted) form rises most none (sorted_visited F part m q sorted form rises none.visits permuted up),
)
  where
    none : HasNoEnd F part m (Variable 0) q
    none = elim (cases_eq v 0) [ inl z ↦ nothing z | inr n ↦ absurd (meets_none F part m q place v form rises most (found n)) ]
