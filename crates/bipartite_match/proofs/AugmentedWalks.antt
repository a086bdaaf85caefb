-- Exchanging the pairs of a walk keeps a matching, and adds a pair.
use Rattle.std.proofs.Common.{◌≡◌, ◌≢◌, ℕ, zero, suc, ◌+◌, ◌-◌, ◌<◌, ◌≤◌, Bool, true, false, cond, not, ◌==◌, List, [], ◌∷◌, ◌++◌, length, get_or, refl, sym, ◌∙◌, ap, subst, arith, ◌⊎◌, inl, inr, count_by, IsTrue, get_or-set_same, get_or-set_other, length-append}
use Rattle.std.proofs.Math.ListN.{set}
use Rattle.std.proofs.lemmas.Bool.{eqb-true, eq-eqb, both_ways, cases_eq}
use Rattle.std.proofs.lemmas.List.{length-set, get_or_push, get_or_append_left}
use Rattle.std.proofs.lemmas.List.Sums.{sum_by-set}
use Rattle.lk_model.specs.Formulas.Formula.{Cnf, is_formula}
use Rattle.lk_model.proofs.Variables.{variable_bound}
use Rattle.bipartite_match.specs.Matchings.{joins}
use Rattle.bipartite_match.specs.Pairing.{Pairing, IsPairing, count_of, with_pair}
use Rattle.matching_layers.specs.Found.{Found, escape_of}
use Rattle.bipartite_match.specs.Found.{IsSearchOutcome}
use Rattle.bipartite_match.specs.Augmented.{HasWalk, IsPath, EndsAt, HasPath}
use Rattle.bipartite_match.proofs.Numbers.{within}

-- a clause may take a free variable of it
pub record CanTake (F : Cnf) (part : List ℕ) (m : Pairing) (i v : ℕ) : Type 0 where
  pub index : i < length part
  pub holds : IsTrue (joins F part i v)
  pub free : get_or m.of_var (v - 1) 0 ≡ 0

-- the positions of variables, once the clause has given its variable up
freed : Pairing → ℕ → List ℕ
freed m i = cond (get_or m.of_clause i 0 == 0) m.of_var (set m.of_var (get_or m.of_clause i 0 - 1) 0)

record IsFreed (m : Pairing) (i : ℕ) (vs : List ℕ) : Type 0 where
  long : length vs ≡ length m.of_var
  gone : get_or m.of_clause i 0 ≢ 0 → get_or vs (get_or m.of_clause i 0 - 1) 0 ≡ 0
  others : (k : ℕ) → (get_or m.of_clause i 0 ≡ 0) ⊎ (k ≢ get_or m.of_clause i 0 - 1) → get_or vs k 0 ≡ get_or m.of_var k 0

is_freed : (F : Cnf) (part : List ℕ) (m : Pairing) (i : ℕ) → IsPairing F part m → IsFreed m i (freed m i)
unfolding freed
is_freed F part m i p = at_test (get_or m.of_clause i 0 == 0) refl
  where
    at_test : (b : Bool) → (get_or m.of_clause i 0 == 0) ≡ b → IsFreed m i (cond b m.of_var (set m.of_var (get_or m.of_clause i 0 - 1) 0))
    at_test true e =
        let none = eqb-true (get_or m.of_clause i 0) 0 e in
        record { long = refl; gone = λ n. absurd (n none); others = λ k h. refl }
    at_test false e =
        let some : get_or m.of_clause i 0 ≢ 0 = λ s. both_ways _ e (eq-eqb (get_or m.of_clause i 0) 0 s) in
        let back = p.paired i some in
        let lt : get_or m.of_clause i 0 - 1 < length m.of_var = within m.of_var (get_or m.of_clause i 0 - 1) (λ z. let f = sym back ∙ z in omega (arith, f)) in
        record {
          long = length-set m.of_var (get_or m.of_clause i 0 - 1) 0;
          gone = λ n. get_or-set_same m.of_var (get_or m.of_clause i 0 - 1) 0 0 lt;
          others = λ k h. elim h [
            | inl z ↦ absurd (some z)
            | inr ne ↦ get_or-set_other m.of_var (get_or m.of_clause i 0 - 1) k 0 0 ne
          ];
        }

-- what an entry counts for
abbrev pub weight : ℕ → ℕ
weight w = cond (not (w == 0)) 1 0

pub weight_none : (w : ℕ) → w ≡ 0 → weight w ≡ 0
weight_none w z = ap weight z

pub weight_some : (w : ℕ) → w ≢ 0 → weight w ≡ 1
weight_some w n = at_test (w == 0) refl
  where
    one : Bool → ℕ
    one b = cond (not b) 1 0

    at_test : (b : Bool) → (w == 0) ≡ b → one b ≡ 1
    at_test true e = absurd (n (eqb-true w 0 e))
    at_test false e = refl

-- what follows when clause i takes v
pub record Takes (F : Cnf) (part : List ℕ) (m : Pairing) (i v : ℕ) : Type 0 where
  pub pairing : IsPairing F part (with_pair m i v)
  pub gone : get_or m.of_clause i 0 ≢ 0 → get_or (with_pair m i v).of_var (get_or m.of_clause i 0 - 1) 0 ≡ 0
  pub more : get_or m.of_clause i 0 ≡ 0 → count_of (with_pair m i v) ≡ count_of m + 1
  pub same : get_or m.of_clause i 0 ≢ 0 → count_of (with_pair m i v) ≡ count_of m
  pub others : (j : ℕ) → j ≢ i → get_or (with_pair m i v).of_clause j 0 ≡ get_or m.of_clause j 0

pub takes : (F : Cnf) (part : List ℕ) (m : Pairing) (i v : ℕ) → IsTrue (is_formula F) → IsPairing F part m → CanTake F part m i v → Takes F part m i v
unfolding freed
takes F part m i v f p t = record {
  pairing = record {
    clauses = length-set m.of_clause i v ∙ p.clauses;
    vars = length-set (freed m i) (v - 1) (i + 1) ∙ free.long ∙ p.vars;
    joined = λ j n. elim (cases_eq j i) [
      | inl s ↦ subst (λ k. IsTrue (joins F part k (get_or clauses k 0))) (sym s) (subst (λ w. IsTrue (joins F part i w)) (sym here) t.holds)
      | inr ne ↦ subst (λ w. IsTrue (joins F part j w)) (sym (elsewhere j ne)) (p.joined j (λ z. n (elsewhere j ne ∙ z)))
    ];
    paired = λ j n. elim (cases_eq j i) [
      | inl s ↦ subst (λ k. get_or vars (get_or clauses k 0 - 1) 0 ≡ k + 1) (sym s) (ap (λ w. get_or vars (w - 1) 0) here ∙ at)
      | inr ne ↦
          (let e = elsewhere j ne in
          let some : get_or m.of_clause j 0 ≢ 0 = λ z. n (e ∙ z) in
          let back = p.paired j some in
          ap (λ w. get_or vars (w - 1) 0) e ∙ apart (get_or m.of_clause j 0 - 1)
          (λ s. let f = sym back ∙ ap (λ k. get_or m.of_var k 0) s ∙ t.free in omega (arith, f))
          (elim (cases_eq (get_or m.of_clause i 0) 0) [
            | inl z ↦ inl z
            | inr y ↦ inr (λ s. let f = sym back ∙ ap (λ k. get_or m.of_var k 0) s ∙ p.paired i y in ne (omega (arith, f)))
          ]) ∙ back)
    ];
    held = λ k n. elim (cases_eq k (v - 1)) [
      | inl s ↦ subst (λ x. get_or clauses (get_or vars x 0 - 1) 0 ≡ x + 1) (sym s)
          (ap (λ x. get_or clauses (x - 1) 0) at ∙ subst (λ x. get_or clauses x 0 ≡ v - 1 + 1) (omega arith) (here ∙ (let l = bound.0 in omega (arith, l))))
      | inr ne ↦ elim (cases_eq (get_or m.of_clause i 0) 0) [
        | inl z ↦
            (let e = apart k ne (inl z) in
            let back = p.held k (λ y. n (e ∙ y)) in
            ap (λ x. get_or clauses (x - 1) 0) e
            ∙ elsewhere (get_or m.of_var k 0 - 1) (λ s. let f = sym (ap (λ x. get_or m.of_clause x 0) s ∙ z) ∙ back in omega (arith, f)) ∙ back)
        | inr y ↦ elim (cases_eq k (get_or m.of_clause i 0 - 1)) [
          | inl s ↦ absurd (n (ap (λ x. get_or vars x 0) s ∙ other (get_or m.of_clause i 0 - 1) (λ r. ne (s ∙ r)) ∙ free.gone y))
          | inr far ↦
              (let e = apart k ne (inr far) in
              let back = p.held k (λ x. n (e ∙ x)) in
              ap (λ x. get_or clauses (x - 1) 0) e
              ∙ elsewhere (get_or m.of_var k 0 - 1) (λ s. let f = sym (ap (λ x. get_or m.of_clause x 0) s) ∙ back in far (omega (arith, f))) ∙ back)
        ]
      ]
    ];
  };
  gone = λ y. other (get_or m.of_clause i 0 - 1) (λ s. let f = sym (p.paired i y) ∙ ap (λ k. get_or m.of_var k 0) s ∙ t.free in omega (arith, f)) ∙ free.gone y;
  more = λ z. let c = counted in let a = weight_none (get_or m.of_clause i 0) z in let b = weight_some v some in omega (arith, c, a, b);
  same = λ y. let c = counted in let a = weight_some (get_or m.of_clause i 0) y in let b = weight_some v some in omega (arith, c, a, b);
  others = elsewhere;
}
  where
    free : IsFreed m i (freed m i)
    free = is_freed F part m i p

    clauses : List ℕ
    clauses = set m.of_clause i v

    vars : List ℕ
    vars = set (freed m i) (v - 1) (i + 1)

    bound : (0 < v) × (v ≤ F.vars)
    bound = variable_bound F (get_or part i 0) v f t.holds

    some : v ≢ 0
    some = let l = bound.0 in omega (arith, l)

    inside : i < length m.of_clause
    inside = subst (λ k. i < k) (sym p.clauses) t.index

    here : get_or clauses i 0 ≡ v
    here = get_or-set_same m.of_clause i v 0 inside

    elsewhere : (j : ℕ) → j ≢ i → get_or clauses j 0 ≡ get_or m.of_clause j 0
    elsewhere j ne = get_or-set_other m.of_clause i j v 0 ne

    at : get_or vars (v - 1) 0 ≡ i + 1
    at = let l = bound.0 in let h = bound.1 in let lt : v - 1 < length (freed m i) = omega (arith, l, h, free.long, p.vars) in
        get_or-set_same (freed m i) (v - 1) (i + 1) 0 lt

    other : (k : ℕ) → k ≢ v - 1 → get_or vars k 0 ≡ get_or (freed m i) k 0
    other k ne = get_or-set_other (freed m i) (v - 1) k (i + 1) 0 ne

    apart : (k : ℕ) → k ≢ v - 1 → (get_or m.of_clause i 0 ≡ 0) ⊎ (k ≢ get_or m.of_clause i 0 - 1) → get_or vars k 0 ≡ get_or m.of_var k 0
    apart k ne h = other k ne ∙ free.others k h

    counted : count_by (λ w. not (w == 0)) clauses + weight (get_or m.of_clause i 0) ≡ count_by (λ w. not (w == 0)) m.of_clause + weight v
    counted = sum_by-set weight m.of_clause i v 0 inside

-- THE WALK OF A SEARCH

-- Back along the walk from a free variable of `now`: the clauses of the layers up to the one that reached it have the
-- variables that they had.
pub record Augmenting (F : Cnf) (part : List ℕ) (m : Pairing) (s : Found) (now : Pairing) (v : ℕ) : Type 0 where
  pub pairing : IsPairing F part now
  pub some : 0 < v
  pub reached : get_or s.escape (v - 1) 0 ≢ 0
  pub free : get_or now.of_var (v - 1) 0 ≡ 0
  pub same : count_of now ≡ count_of m
  pub agrees : (j : ℕ) → get_or s.layer j 0 ≤ get_or s.layer (escape_of s v) 0 → get_or now.of_clause j 0 ≡ get_or m.of_clause j 0

pub begins_augmenting : (F : Cnf) (part : List ℕ) (m : Pairing) (s : Found) → HasWalk F part m s → Augmenting F part m s m s.end
begins_augmenting F part m s w =
    let e = w.found.free w.end in let n = w.end in
    record { pairing = w.pairing; some = omega (arith, n); reached = e.0; free = e.1; same = refl; agrees = λ j h. refl }

-- a layer that is some stands within the list
pub layer_within : (F : Cnf) (part : List ℕ) (m : Pairing) (s : Found) (i : ℕ) → IsSearchOutcome F part m s → get_or s.layer i 0 ≢ 0 → i < length part
layer_within F part m s i found n = subst (λ k. i < k) found.layers (within s.layer i n)

pub can_augment : (F : Cnf) (part : List ℕ) (m : Pairing) (s : Found) (now : Pairing) (v : ℕ) → HasWalk F part m s → Augmenting F part m s now v
    → CanTake F part now (escape_of s v) v
can_augment F part m s now v w t =
    let by = w.found.reached_by v t.some t.reached in
    record { index = layer_within F part m s (escape_of s v) w.found by.0; holds = by.1; free = t.free }

-- what is left when the clause that reached the variable takes it
pub record Augmented (F : Cnf) (part : List ℕ) (m : Pairing) (s : Found) (now : Pairing) (v : ℕ) : Type 0 where
  pub on : get_or now.of_clause (escape_of s v) 0 ≢ 0
      → Augmenting F part m s (with_pair now (escape_of s v) v) (get_or now.of_clause (escape_of s v) 0)
      × (get_or s.layer (escape_of s (get_or now.of_clause (escape_of s v) 0)) 0 < get_or s.layer (escape_of s v) 0)
  pub done : get_or now.of_clause (escape_of s v) 0 ≡ 0
      → IsPairing F part (with_pair now (escape_of s v) v) × (count_of (with_pair now (escape_of s v) v) ≡ count_of m + 1)

pub augmented : (F : Cnf) (part : List ℕ) (m : Pairing) (s : Found) (now : Pairing) (v : ℕ) → HasWalk F part m s → Augmenting F part m s now v
    → Augmented F part m s now v
augmented F part m s now v w t = record {
  on = λ n.
      let low : (get_or s.escape (get_or now.of_clause i 0 - 1) 0 ≢ 0) × (get_or s.layer (escape_of s (get_or now.of_clause i 0)) 0 < get_or s.layer i 0)
      = subst (λ x. (get_or s.escape (x - 1) 0 ≢ 0) × (get_or s.layer (escape_of s x) 0 < get_or s.layer i 0)) (sym same)
      (w.found.lower i by.0 (λ z. n (same ∙ z))) in (
        record {
          pairing = next.pairing;
          some = omega (arith, n);
          reached = low.0;
          free = next.gone n;
          same = next.same n ∙ t.same;
          agrees = λ j h. next.others j (λ e. let f = ap (λ x. get_or s.layer x 0) e in let l = low.1 in omega (arith, f, h, l))
              ∙ t.agrees j (let l = low.1 in omega (arith, h, l));
        },
        low.1,
      );
  done = λ z. (next.pairing, let c = next.more z in let e = t.same in omega (arith, c, e));
}
  where
    i : ℕ
    i = escape_of s v

    by : (get_or s.layer i 0 ≢ 0) × IsTrue (joins F part i v)
    by = w.found.reached_by v t.some t.reached

    same : get_or now.of_clause i 0 ≡ get_or m.of_clause i 0
    same = t.agrees i (omega arith)

    next : Takes F part now i v
    next = takes F part now i v w.formula t.pairing (can_augment F part m s now v w t)

-- So there is a matching with one pair more.
augmented_all : (F : Cnf) (part : List ℕ) (m : Pairing) (s : Found) (k : ℕ) (now : Pairing) (v : ℕ) → HasWalk F part m s → Augmenting F part m s now v
    → get_or s.layer (escape_of s v) 0 < k → (after : Pairing) × IsPairing F part after × (count_of after ≡ count_of m + 1)
augmented_all F part m s zero now v w t h = absurd (omega (arith, h))
augmented_all F part m s (suc k) now v w t h =
    let u = augmented F part m s now v w t in
    elim (cases_eq (get_or now.of_clause (escape_of s v) 0) 0) [
      | inl z ↦ (let d = u.done z in (with_pair now (escape_of s v) v, d.0, d.1))
      | inr n ↦
          (let o = u.on n in let l = o.1 in
          augmented_all F part m s k (with_pair now (escape_of s v) v) (get_or now.of_clause (escape_of s v) 0) w o.0 (omega (arith, l, h)))
    ]

pub more_pairs : (F : Cnf) (part : List ℕ) (m : Pairing) (s : Found) → HasWalk F part m s
    → (after : Pairing) × IsPairing F part after × (count_of after ≡ count_of m + 1)
more_pairs F part m s w = augmented_all F part m s (suc (get_or s.layer (escape_of s s.end) 0)) m s.end w (begins_augmenting F part m s w) (omega arith)

-- WHAT A CLAUSE NEEDS TO TAKE A VARIABLE

pub record Ready (now : Pairing) (i v : ℕ) : Type 0 where
  pub index : i < length now.of_clause
  pub few : i < 4000000
  pub some : 0 < v
  pub variable : v ≤ length now.of_var
  pub old : get_or now.of_clause i 0 ≤ length now.of_var

pub ready : (F : Cnf) (part : List ℕ) (now : Pairing) (i v : ℕ) → IsTrue (is_formula F) → length part ≤ 4000000 → IsPairing F part now → CanTake F part now i v
    → Ready now i v
ready F part now i v f few p t =
    let b = variable_bound F (get_or part i 0) v f t.holds in let least = b.0 in let most = b.1 in
    let clauses = p.clauses in let vars = p.vars in let inside = t.index in
    record {
      index = omega (arith, inside, clauses);
      few = omega (arith, inside, few);
      some = least;
      variable = omega (arith, most, vars);
      old = elim (cases_eq (get_or now.of_clause i 0) 0) [
        | inl z ↦ omega (arith, z)
        | inr n ↦ (let o = (variable_bound F (get_or part i 0) (get_or now.of_clause i 0) f (p.joined i n)).1 in omega (arith, o, vars))
      ];
    }

-- THE WALK OF A PATH

-- a longer list, read at its places
pub record Pushed (xs : List ℕ) (x : ℕ) : Type 0 where
  pub long : length (xs ++ x ∷ []) ≡ length xs + 1
  pub old : (k : ℕ) → k < length xs → get_or (xs ++ x ∷ []) k 0 ≡ get_or xs k 0
  pub new : get_or (xs ++ x ∷ []) (length xs) 0 ≡ x

pub pushed : (xs : List ℕ) (x : ℕ) → Pushed xs x
pushed xs x = record {
  long = let e = length-append xs (x ∷ []) in omega (arith, e);
  old = λ k l. get_or_append_left xs (x ∷ []) 0 k l;
  new = get_or_push xs x 0 (length xs) refl;
}

-- an earlier place has another clause
earlier_differs : (F : Cnf) (part : List ℕ) (m : Pairing) (ps : List ℕ) (i k : ℕ) → IsPath F part m (ps ++ i ∷ []) → k < length ps → get_or ps k 0 ≢ i
earlier_differs F part m ps i k h l e =
    let p = pushed ps i in let n = p.long in
    let same = h.once k (length ps) (omega (arith, l, n)) (omega (arith, n)) (p.old k l ∙ e ∙ sym p.new) in
    omega (arith, same, l)

pub shorter_path : (F : Cnf) (part : List ℕ) (m : Pairing) (ps : List ℕ) (i : ℕ) → IsPath F part m (ps ++ i ∷ []) → IsPath F part m ps
shorter_path F part m ps i h = record {
  index = λ k l. subst (λ x. x < length part) (p.old k l) (h.index k (more k l));
  once = λ k j l r e. h.once k j (more k l) (more j r) (p.old k l ∙ e ∙ sym (p.old j r));
  root = λ l. subst (λ x. get_or m.of_clause x 0 ≡ 0) (p.old 0 l) (h.root (more 0 l));
  linked = λ k l. subst (λ x. (get_or m.of_clause x 0 ≢ 0) × IsTrue (joins F part (get_or ps k 0) (get_or m.of_clause x 0))) (p.old (k + 1) l)
      (subst (λ y. (get_or m.of_clause (get_or (ps ++ i ∷ []) (k + 1) 0) 0 ≢ 0) × IsTrue (joins F part y (get_or m.of_clause (get_or (ps ++ i ∷ []) (k + 1) 0) 0)))
      (p.old k (omega (arith, l))) (h.linked k (more (k + 1) l)));
}
  where
    p : Pushed ps i
    p = pushed ps i

    more : (k : ℕ) → k < length ps → k < length (ps ++ i ∷ [])
    more k l = let n = p.long in omega (arith, l, n)

-- a path is one of another matching with the same variables of its clauses
same_path : (F : Cnf) (part : List ℕ) (m now : Pairing) (ps : List ℕ) → ((k : ℕ) → k < length ps → get_or now.of_clause (get_or ps k 0) 0 ≡ get_or m.of_clause (get_or ps k 0) 0)
    → IsPath F part m ps → IsPath F part now ps
same_path F part m now ps e h = record {
  index = h.index;
  once = h.once;
  root = λ l. e 0 l ∙ h.root l;
  linked = λ k l. subst (λ x. (x ≢ 0) × IsTrue (joins F part (get_or ps k 0) x)) (sym (e (k + 1) l)) (h.linked k l);
}

pub last_can_take : (F : Cnf) (part : List ℕ) (m : Pairing) (ps : List ℕ) (i v : ℕ) → EndsAt F part m (ps ++ i ∷ []) v → CanTake F part m i v
last_can_take F part m ps i v h =
    let p = pushed ps i in let n = p.long in
    let some : 0 < length (ps ++ i ∷ []) = omega (arith, n) in
    let last : length (ps ++ i ∷ []) - 1 ≡ length ps = omega (arith, n) in
    record {
      index = subst (λ x. x < length part) p.new (h.chain.index (length ps) (omega (arith, n)));
      holds = subst (λ x. IsTrue (joins F part x v)) (ap (λ k. get_or (ps ++ i ∷ []) k 0) last ∙ p.new) (h.holds some);
      free = h.free some;
    }

-- the last clause takes the variable, and the path is shorter
pub augmented_back : (F : Cnf) (part : List ℕ) (m : Pairing) (ps : List ℕ) (i v : ℕ) → HasPath F part m (ps ++ i ∷ []) v
    → HasPath F part (with_pair m i v) ps (get_or m.of_clause i 0)
augmented_back F part m ps i v h = record {
  formula = h.formula;
  few = h.few;
  pairing = next.pairing;
  ends = record {
    chain = same_path F part m (with_pair m i v) ps (λ k l. next.others (get_or ps k 0) (earlier_differs F part m ps i k h.ends.chain l)) (shorter_path F part m ps i h.ends.chain);
    some = λ l. let n = (linked l).0 in omega (arith, n);
    begun = λ l. elim (cases_eq (length ps) 0) [
      | inl z ↦ absurd (let r = first_free z in omega (arith, r, l))
      | inr n ↦ omega (arith, n)
    ];
    holds = λ l. (linked l).1;
    free = λ l. next.gone (linked l).0;
  };
}
  where
    p : Pushed ps i
    p = pushed ps i

    next : Takes F part m i v
    next = takes F part m i v h.formula h.pairing (last_can_take F part m ps i v h.ends)

    -- the only clause of a path is its root
    first_free : length ps ≡ 0 → get_or m.of_clause i 0 ≡ 0
    first_free z =
        let n = p.long in
        let here : get_or (ps ++ i ∷ []) 0 0 ≡ i = subst (λ k. get_or (ps ++ i ∷ []) k 0 ≡ i) z p.new in
        subst (λ x. get_or m.of_clause x 0 ≡ 0) here (h.ends.chain.root (omega (arith, n)))

    linked : 0 < length ps → (get_or m.of_clause i 0 ≢ 0) × IsTrue (joins F part (get_or ps (length ps - 1) 0) (get_or m.of_clause i 0))
    linked l =
        let n = p.long in
        let at : length ps - 1 + 1 ≡ length ps = omega (arith, l) in
        let link = h.ends.chain.linked (length ps - 1) (omega (arith, l, n)) in
        let here = ap (λ k. get_or (ps ++ i ∷ []) k 0) at ∙ p.new in
        subst (λ x. (get_or m.of_clause x 0 ≢ 0) × IsTrue (joins F part (get_or ps (length ps - 1) 0) (get_or m.of_clause x 0))) here
        (subst (λ y. (get_or m.of_clause (get_or (ps ++ i ∷ []) (length ps - 1 + 1) 0) 0 ≢ 0) × IsTrue (joins F part y (get_or m.of_clause (get_or (ps ++ i ∷ []) (length ps - 1 + 1) 0) 0)))
        (p.old (length ps - 1) (omega (arith, l))) link)

-- THE LOOPS

-- the walk of a search while its pairs are exchanged, and when they are
pub record WalkState (F : Cnf) (part : List ℕ) (m : Pairing) (s : Found) (now : Pairing) (v : ℕ) : Type 0 where
  pub going : v ≢ 0 → Augmenting F part m s now v
  pub done : v ≡ 0 → IsPairing F part now × (count_of now ≡ count_of m + 1)

-- the layer of the clause that takes the variable next
abbrev pub layer_left : Found → ℕ → ℕ
layer_left s v = cond (v == 0) 0 (get_or s.layer (escape_of s v) 0)

layer_left_none : (s : Found) (v : ℕ) → v ≡ 0 → layer_left s v ≡ 0
layer_left_none s v z = ap (λ b. cond b 0 (get_or s.layer (escape_of s v) 0)) (eq-eqb v 0 z)

layer_left_some : (s : Found) (v : ℕ) → v ≢ 0 → layer_left s v ≡ get_or s.layer (escape_of s v) 0
layer_left_some s v n = at_test (v == 0) refl
  where
    at_test : (b : Bool) → (v == 0) ≡ b → cond b 0 (get_or s.layer (escape_of s v) 0) ≡ get_or s.layer (escape_of s v) 0
    at_test true e = absurd (n (eqb-true v 0 e))
    at_test false e = refl

pub walk_starts : (F : Cnf) (part : List ℕ) (m : Pairing) (s : Found) → HasWalk F part m s → WalkState F part m s m s.end
walk_starts F part m s w = record { going = λ n. begins_augmenting F part m s w; done = λ z. absurd (w.end z) }

pub walk_goes : (F : Cnf) (part : List ℕ) (m : Pairing) (s : Found) (now : Pairing) (v : ℕ) → HasWalk F part m s → v ≢ 0 → WalkState F part m s now v
    → WalkState F part m s (with_pair now (escape_of s v) v) (get_or now.of_clause (escape_of s v) 0)
walk_goes F part m s now v w n h =
    let u = augmented F part m s now v w (h.going n) in
    record { going = λ y. (u.on y).0; done = u.done }

pub walk_falls : (F : Cnf) (part : List ℕ) (m : Pairing) (s : Found) (now : Pairing) (v : ℕ) → HasWalk F part m s → v ≢ 0 → WalkState F part m s now v
    → layer_left s (get_or now.of_clause (escape_of s v) 0) < layer_left s v
walk_falls F part m s now v w n h =
    let t = h.going n in
    let u = augmented F part m s now v w t in
    let here = layer_left_some s v n in
    elim (cases_eq (get_or now.of_clause (escape_of s v) 0) 0) [
      | inl z ↦
          (let next = layer_left_none s (get_or now.of_clause (escape_of s v) 0) z in
          let some = (w.found.reached_by v t.some t.reached).0 in omega (arith, here, next, some))
      | inr y ↦
          (let next = layer_left_some s (get_or now.of_clause (escape_of s v) 0) y in
          let low = (u.on y).1 in omega (arith, here, next, low))
    ]

pub walk_ready : (F : Cnf) (part : List ℕ) (m : Pairing) (s : Found) (now : Pairing) (v : ℕ) → HasWalk F part m s → v ≢ 0 → WalkState F part m s now v
    → Ready now (escape_of s v) v
walk_ready F part m s now v w n h = ready F part now (escape_of s v) v w.formula w.few (h.going n).pairing (can_augment F part m s now v w (h.going n))

-- the same for a path, of which so many clauses were there at first
pub record PathState (F : Cnf) (part : List ℕ) (m : Pairing) (first : ℕ) (now : Pairing) (ps : List ℕ) (v : ℕ) : Type 0 where
  pub path : HasPath F part now ps v
  pub going : v ≢ 0 → count_of now ≡ count_of m
  pub done : v ≡ 0 → 0 < first → count_of now ≡ count_of m + 1

pub path_starts : (F : Cnf) (part : List ℕ) (m : Pairing) (ps : List ℕ) (v : ℕ) → HasPath F part m ps v → PathState F part m (length ps) m ps v
path_starts F part m ps v h = record {
  path = h;
  going = λ n. refl;
  done = λ z l. absurd (let s = h.ends.some l in omega (arith, s, z));
}

pub path_goes : (F : Cnf) (part : List ℕ) (m : Pairing) (first : ℕ) (now : Pairing) (ps : List ℕ) (i v : ℕ) → PathState F part m first now (ps ++ i ∷ []) v
    → PathState F part m first (with_pair now i v) ps (get_or now.of_clause i 0)
path_goes F part m first now ps i v h = record {
  path = augmented_back F part now ps i v h.path;
  going = λ n. let a = next.same n in let b = before in omega (arith, a, b);
  done = λ z l. let a = next.more z in let b = before in omega (arith, a, b);
}
  where
    next : Takes F part now i v
    next = takes F part now i v h.path.formula h.path.pairing (last_can_take F part now ps i v h.path.ends)

    before : count_of now ≡ count_of m
    before =
        let n = (pushed ps i).long in
        let s = h.path.ends.some (omega (arith, n)) in
        h.going (λ z. omega (arith, s, z))

-- at the end no clause is left
pub path_done : (F : Cnf) (part : List ℕ) (m : Pairing) (first : ℕ) (now : Pairing) (ps : List ℕ) (v : ℕ) → PathState F part m first now ps v
    → length ps ≡ 0 → 0 < first → count_of now ≡ count_of m + 1
path_done F part m first now ps v h e l = h.done none l
  where
    none : v ≡ 0
    none = elim (cases_eq v 0) [
      | inl z ↦ z
      | inr n ↦ absurd (let b = h.path.ends.begun (omega (arith, n)) in omega (arith, b, e))
    ]

pub path_ready : (F : Cnf) (part : List ℕ) (m : Pairing) (first : ℕ) (now : Pairing) (ps : List ℕ) (i v : ℕ) → PathState F part m first now (ps ++ i ∷ []) v → Ready now i v
path_ready F part m first now ps i v h = ready F part now i v h.path.formula h.path.few h.path.pairing (last_can_take F part now ps i v h.path.ends)
