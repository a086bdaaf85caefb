-- The positions of the variables and the clauses without one tell which clauses are live.
use Rattle.std.proofs.Common.{◌≡◌, ◌≢◌, ℕ, ◌+◌, ◌-◌, ◌<◌, ◌≤◌, Bool, true, false, not, ◌&&◌, ◌||◌, ◌==◌, List, [], ◌∷◌, ◌++◌, length, get_or, ℤ, refl, sym, ◌∙◌, ap, subst, arith, inl, inr, filter, replicate, IsTrue, IsFalse}
use Rattle.std.specs.List.{remove}
use Rattle.std.proofs.Math.ListN.{set}
use Rattle.std.proofs.lemmas.Bool.{cases_eq, eqb-true, both_ways}
use Rattle.lk_model.specs.Lists.{among, rises_within}
use Rattle.lk_model.specs.Formulas.Literal.{is_clause, mentions}
use Rattle.lk_model.specs.Formulas.Formula.{Cnf, clause_at, is_formula, positions_of, with_clause}
use Rattle.lk_model.proofs.Booleans.{or_true, or_left, or_right, same_tests}
use Rattle.lk_model.proofs.Counting.{from_filter, in_filter, among-range}
use Rattle.lk_model.proofs.Founds.{filtered_rise, up_to_bounds}
use Rattle.lk_model.proofs.Lists.{among_here, among_at, place_of}
use Rattle.lk_model.proofs.Rising.{rises, bounded}
use Rattle.bipartite_match.specs.declared.augmenting.Start.TheVariants.{Clause, Variable}
use Rattle.bipartite_match.specs.declared.matching.Matching.{Matching}
use Rattle.bipartite_match.specs.declared.pairs.Pairs.{Pairs}
use Rattle.bipartite_match.specs.declared.augmenting.Start.{Start}
use Rattle.bipartite_match.specs.Behind.{matching_of, CanAugment, CanReach, IsOutcome}
use Rattle.bipartite_match.specs.Matchings.{IsUnmatched}
use Rattle.bipartite_match.proofs.Numbers.{within}
use Rattle.bipartite_match.proofs.Owning.{some_position, index_within}
use Rattle.edit_text.specs.LiveClauses.{LiveClauses, with_added, with_removed}
use Rattle.match_edits.specs.EditLaws.{RestoredBy, EditLaws}
use Rattle.match_edits.specs.Followed.{IsLive}
use Rattle.match_edits.specs.Held.{IsHeld, IsLiveBy, live_in, with_bare, without_bare, with_free}
use Rattle.match_edits.proofs.Rows.{filter_remove, set_back}

-- LISTS THAT RISE

least : (low high x : ℕ) (xs : List ℕ) (k : ℕ) → rises_within low high (x ∷ xs) ≡ true → among (x ∷ xs) k ≡ true → x ≤ k
least low high x xs k r e = elim (or_true (x == k) (among xs k) e) [
  | inl s ↦ (let q = eqb-true x k s in omega (arith, q))
  | inr t ↦ (let b = (bounded x high xs k (rises low high x xs r).more t).0 in omega (arith, b))
]

-- behind the first one
behind : (low high x : ℕ) (xs : List ℕ) (k : ℕ) → rises_within low high (x ∷ xs) ≡ true → among xs k ≡ (not (x == k) && among (x ∷ xs) k)
behind low high x xs k r = at_test (x == k) refl
  where
    none : x ≡ k → (b : Bool) → among xs k ≡ b → b ≡ false
    none q false e = refl
    none q true e = absurd (let b = (bounded x high xs k (rises low high x xs r).more e).0 in omega (arith, b, q))

    at_test : (b : Bool) → (x == k) ≡ b → among xs k ≡ (not b && (b || among xs k))
    at_test true e = none (eqb-true x k e) (among xs k) refl
    at_test false e = refl

-- two of them with the same numbers are the same
same_list : (low high : ℕ) (xs ys : List ℕ) → rises_within low high xs ≡ true → rises_within low high ys ≡ true → ((k : ℕ) → among xs k ≡ among ys k) → xs ≡ ys
same_list low high [] [] r s h = refl
same_list low high [] (y ∷ ys) r s h = absurd (let f : false ≡ true = h y ∙ among_here y ys in let g : ⊥ = cc in g)
same_list low high (x ∷ xs) [] r s h = absurd (let f : true ≡ false = sym (among_here x xs) ∙ h x in let g : ⊥ = cc in g)
same_list low high (x ∷ xs) (y ∷ ys) r s h =
    let a = least low high x xs y r (h y ∙ among_here y ys) in
    let b = least low high y ys x s (sym (h x) ∙ among_here x xs) in
    let first : x ≡ y = omega (arith, a, b) in
    ap (λ z. z ∷ xs) first ∙ ap (λ (zs : List ℕ). y ∷ zs) (same_list x high xs ys (rises low high x xs r).more (subst (λ z. rises_within z high ys ≡ true) (sym first) (rises low high y ys s).more)
    (λ k. behind low high x xs k r ∙ ap (λ t. not (x == k) && t) (h k) ∙ ap (λ z. not (z == k) && among (y ∷ ys) k) first ∙ sym (behind low high y ys k s)))

-- WHICH CLAUSES ARE LIVE

holds : List ℕ → List ℕ → ℕ → Bool
holds unmatched of_var n = among unmatched n || among of_var n

held_live : (F : Cnf) (part : List ℕ) (m : Matching) (k : ℕ) → IsLive F part m → 0 < k → holds m.unmatched m.of_var k ≡ true → among part k ≡ true
unfolding holds
held_live F part m k h some e = elim (or_true (among m.unmatched k) (among m.of_var k) e) [
  | inl t ↦ (let u = (h.ready.unmatched k).0 t in subst (λ p. among part p ≡ true) u.is (among_at part u.index u.inside))
  | inr t ↦
      (let v = place_of m.of_var k t in let at = v.2 in
      let w = h.ready.matching.held v.0 (λ z. omega (arith, at, some, z)) in let own = w.2 in
      let inside = index_within F part m w.0 h.ready.matching (λ z. omega (arith, own, z)) in
      subst (λ p. among part p ≡ true) (w.1 ∙ at) (among_at part w.0 inside))
]

live_held : (F : Cnf) (part : List ℕ) (m : Matching) (k : ℕ) → IsLive F part m → among part k ≡ true → holds m.unmatched m.of_var k ≡ true
unfolding holds
live_held F part m k h e =
    let i = place_of part k e in
    elim (cases_eq (get_or m.of_clause i.0 0) 0) [
      | inl z ↦
          (let u : IsUnmatched part m k = record { index = i.0; inside = i.1; is = i.2; none = z } in
          or_left (among m.unmatched k) (among m.of_var k) ((h.ready.unmatched k).1 u))
      | inr n ↦
          (let back = h.ready.matching.paired i.0 n in
          let lt = within m.of_var (get_or m.of_clause i.0 0 - 1) (λ z. some_position F part i.0 h.positions i.1 (sym back ∙ z)) in
          or_right (among m.unmatched k) (among m.of_var k)
          (subst (λ p. among m.of_var p ≡ true) (back ∙ i.2) (among_at m.of_var (get_or m.of_clause i.0 0 - 1) lt)))
    ]

live_is : (F : Cnf) (part : List ℕ) (m : Matching) → IsLive F part m → filter (holds m.unmatched m.of_var) (positions_of F) ≡ part
live_is F part m h = same_list 0 (length F.clauses) (filter (holds m.unmatched m.of_var) (positions_of F)) part (filtered_rise (length F.clauses) (holds m.unmatched m.of_var)) h.positions
    (λ k. same_tests (among (filter (holds m.unmatched m.of_var) (positions_of F)) k) (among part k)
    (λ e. let w = from_filter (holds m.unmatched m.of_var) (positions_of F) k e in held_live F part m k h (let b = (up_to_bounds (length F.clauses) k w.1).0 in omega (arith, b)) w.0)
    (λ e. let b = bounded 0 (length F.clauses) part k h.positions e in let low = b.0 in let high = b.1 in
    in_filter (holds m.unmatched m.of_var) (positions_of F) k (live_held F part m k h e) (among-range 1 (length F.clauses) k (omega (arith, low)) (omega (arith, high)))))

pub held_is : (F : Cnf) (part own : List ℕ) (p : Pairs) (marks : List Bool) → IsLive F part (matching_of own p marks) → live_in F p ≡ part
unfolding holds
held_is F part own p marks h = live_is F part (matching_of own p marks) h

pub now_held : (F : Cnf) (part : List ℕ) (p : Pairs) (marks : List Bool) → IsLiveBy F part p marks → IsHeld F p marks
now_held F part p marks w = (w.0, subst (λ (ps : List ℕ). IsLive F ps (matching_of w.0 p marks)) (sym (held_is F part w.0 p marks w.1)) w.1)

-- what contracts see of the same numbers
pub seen_as : (F : Cnf) (part : List ℕ) (p : Pairs) (marks : List Bool) → IsLiveBy F part p marks → (let s : LiveClauses = record { held = F; live = live_in F p } in s) ≡ (let s : LiveClauses = record { held = F; live = part } in s)
seen_as F part p marks w = ap (λ (ps : List ℕ). let s : LiveClauses = record { held = F; live = ps } in s) (held_is F part w.0 p marks w.1)

-- A CLAUSE GOES

-- the index of a live clause in the part
pub record IsIndex (part : List ℕ) (number i : ℕ) : Type 0 where
  pub inside : i < length part
  pub is : get_or part i 0 ≡ number

-- what contracts see without it
gone : (F : Cnf) (part : List ℕ) (number i : ℕ) → IsTrue (rises_within 0 (length F.clauses) part) → IsIndex part number i
    → (let s : LiveClauses = record { held = F; live = remove part i } in s) ≡ with_removed (record { held = F; live = part }) number
gone F part number i r at =
    ap (λ (ps : List ℕ). let s : LiveClauses = record { held = F; live = ps } in s) (sym (filter_remove 0 (length F.clauses) number part i r at.inside at.is))

pub gone_as : (F : Cnf) (part : List ℕ) (p : Pairs) (marks : List Bool) (number i : ℕ) → IsTrue (rises_within 0 (length F.clauses) part) → IsIndex part number i → IsLiveBy F (remove part i) p marks
    → (let s : LiveClauses = record { held = F; live = live_in F p } in s) ≡ with_removed (record { held = F; live = part }) number
gone_as F part p marks number i r at w = seen_as F (remove part i) p marks w ∙ gone F part number i r at

-- the clause that has a variable
pub record Leaves (F : Cnf) (part own : List ℕ) (p : Pairs) (marks : List Bool) (v number : ℕ) : Type 0 where
  pub index : ℕ
  pub at : IsIndex part number index
  pub restored : RestoredBy F (remove part index) (matching_of (remove own index) (with_free p v) marks) (Variable v)

pub leaves : EditLaws → (F : Cnf) (part own : List ℕ) (p : Pairs) (marks : List Bool) (v number : ℕ) → IsTrue (is_formula F) → IsLive F part (matching_of own p marks)
    → 0 < v → 0 < number → get_or p.of_var (v - 1) 0 ≡ number → Leaves F part own p marks v number
leaves laws F part own p marks v number form h low some is =
    let w = h.ready.matching.held (v - 1) (λ z. omega (arith, is, some, z)) in
    let own_is : get_or own w.0 0 ≡ v = let e = w.2 in omega (arith, e, low) in
    let had : get_or own w.0 0 ≢ 0 = λ z. omega (arith, own_is, z, low) in
    let inside = index_within F part (matching_of own p marks) w.0 h.ready.matching had in
    record {
      index = w.0;
      at = record { inside = inside; is = w.1 ∙ is };
      restored = subst (λ u. RestoredBy F (remove part w.0) (matching_of (remove own w.0) (with_free p u) marks) (Variable u)) own_is
          (laws.matched_removed F part (matching_of own p marks) w.0 form h inside had);
    }

-- the clause that has none
pub record Drops (F : Cnf) (part : List ℕ) (p : Pairs) (marks : List Bool) (j number : ℕ) : Type 0 where
  pub index : ℕ
  pub at : IsIndex part number index
  pub live : IsLiveBy F (remove part index) (without_bare p j) marks

pub drops : EditLaws → (F : Cnf) (part own : List ℕ) (p : Pairs) (marks : List Bool) (j number : ℕ) → IsTrue (is_formula F) → IsLive F part (matching_of own p marks)
    → j < length p.unmatched → get_or p.unmatched j 0 ≡ number → Drops F part p marks j number
drops laws F part own p marks j number form h inside is =
    let u = (h.ready.unmatched number).0 (subst (λ k. among p.unmatched k ≡ true) is (among_at p.unmatched j inside)) in
    record {
      index = u.index;
      at = record { inside = u.inside; is = u.is };
      live = (remove own u.index, laws.unmatched_removed F part (matching_of own p marks) u.index j form h u.inside u.none inside (is ∙ sym u.is));
    }

-- a number that neither a variable of its clause has, nor the list of those without
pub not_live : (F : Cnf) (part own : List ℕ) (p : Pairs) (marks : List Bool) (number : ℕ) → IsLive F part (matching_of own p marks)
    → ((v : ℕ) → IsTrue (mentions (clause_at F number) v) → get_or p.of_var (v - 1) 0 ≢ number) → IsFalse (among p.unmatched number) → IsFalse (among part number)
not_live F part own p marks number h none bare = at_test (among part number) refl
  where
    at_test : (b : Bool) → among part number ≡ b → b ≡ false
    at_test false e = refl
    at_test true e =
        let i = place_of part number e in
        absurd (elim (cases_eq (get_or own i.0 0) 0) [
          | inl z ↦
              (let u : IsUnmatched part (matching_of own p marks) number = record { index = i.0; inside = i.1; is = i.2; none = z } in
              both_ways (among p.unmatched number) bare ((h.ready.unmatched number).1 u))
          | inr n ↦
              none (get_or own i.0 0) (subst (λ q. mentions (clause_at F q) (get_or own i.0 0) ≡ true) i.2 (h.ready.matching.joined i.0 n)) (h.ready.matching.paired i.0 n ∙ i.2)
        ])

pub is_live : (F : Cnf) (part : List ℕ) (number i : ℕ) → IsIndex part number i → among part number ≡ true
is_live F part number i at = subst (λ k. among part k ≡ true) at.is (among_at part i at.inside)

-- THE KERNEL

pub can_reach : (F : Cnf) (part : List ℕ) (m : Matching) → IsLive F part m → CanReach F part m
can_reach F part m h = record { positions = h.positions; maximum = h.maximum; ready = h.ready }

-- any marks of which none is set serve
pub bare_marks : (F : Cnf) (part own : List ℕ) (p : Pairs) (marks others : List Bool) → others ≡ replicate F.vars false → IsLive F part (matching_of own p marks) → IsLive F part (matching_of own p others)
bare_marks F part own p marks others e h = subst (λ (ms : List Bool). IsLive F part (matching_of own p ms)) (h.ready.unmarked ∙ sym e) h

-- ONE SEARCH

pub can_augment : (F : Cnf) (part : List ℕ) (m : Matching) (from : Start) → RestoredBy F part m from → CanAugment F part m from
can_augment F part m from r = record { positions = r.positions; ready = r.ready; start = r.start }

-- what a search leaves is maximum
pub restored_live : (F : Cnf) (from : Start) (p now : Pairs) (marks after : List Bool) (answer : Bool)
    → ((part own : List ℕ) → CanAugment F part (matching_of own p marks) from → (vars : List ℕ) × IsOutcome F part from (matching_of own p marks) (matching_of vars now after) answer)
    → (part own : List ℕ) → RestoredBy F part (matching_of own p marks) from → IsLiveBy F part now after
restored_live F from p now marks after answer outcome part own r =
    let o = outcome part own (can_augment F part (matching_of own p marks) from r) in (
      o.0,
      record { positions = r.positions; maximum = r.maximum (matching_of o.0 now after) o.1.ready.matching o.1.restores; ready = o.1.ready },
    )

-- ONE MORE CLAUSE

pub grown : EditLaws → (F G : Cnf) (part own : List ℕ) (p : Pairs) (marks : List Bool) (c : List ℤ) (number : ℕ) → IsTrue (is_formula F) → IsTrue (is_clause F.vars c)
    → IsLive F part (matching_of own p marks) → number ≡ length F.clauses + 1 → G ≡ with_clause F c
    → RestoredBy G (part ++ number ∷ []) (matching_of (own ++ 0 ∷ []) (with_bare p number) marks) (Clause number)
grown laws F G part own p marks c number form clause h n is =
    subst (λ (H : Cnf). RestoredBy H (part ++ number ∷ []) (matching_of (own ++ 0 ∷ []) (with_bare p number) marks) (Clause number)) (sym is)
    (laws.added F part (matching_of own p marks) c number form clause h n)

pub grown_as : (F G : Cnf) (part : List ℕ) (p : Pairs) (marks : List Bool) (c : List ℤ) (number : ℕ) → number ≡ length F.clauses + 1 → G ≡ with_clause F c → IsLiveBy G (part ++ number ∷ []) p marks
    → (let s : LiveClauses = record { held = G; live = live_in G p } in s) ≡ with_added (record { held = F; live = part }) c
grown_as F G part p marks c number n is w =
    seen_as G (part ++ number ∷ []) p marks w
    ∙ ap (λ (H : Cnf). let s : LiveClauses = record { held = H; live = part ++ number ∷ [] } in s) is
    ∙ ap (λ (k : ℕ). let s : LiveClauses = record { held = with_clause F c; live = part ++ k ∷ [] } in s) n

-- TAKEN BACK

-- a variable has its clause again
pub pairs_back : (p now : Pairs) (v number : ℕ) (vars : List ℕ) → 0 < v → v ≤ length p.of_var → number ≡ get_or p.of_var (v - 1) 0 → now ≡ with_free p v → vars ≡ set now.of_var (v - 1) number
    → (let x : Pairs = record now { of_var = vars } in x) ≡ p
pairs_back p now v number vars some within is same written =
    ap (λ (xs : List ℕ). let x : Pairs = record now { of_var = xs } in x) (written ∙ ap (λ (x : Pairs). set x.of_var (v - 1) number) same
    ∙ set_back p.of_var (v - 1) number 0 (omega (arith, some, within)) (sym is))
    ∙ ap (λ (x : Pairs). let y : Pairs = record x { of_var = p.of_var } in y) same
