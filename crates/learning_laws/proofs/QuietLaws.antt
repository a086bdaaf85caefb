-- What a solver knows below the present level, through each of its steps.
use Rattle.std.proofs.Common.{◌≡◌, ◌≢◌, ◌∙◌, ℕ, ◌+◌, ◌<◌, ◌≤◌, ◌==◌, ◌++◌, ◌∷◌, [], Bool, true, false, not, ◌&&◌, ◌||◌, List, ℤ, None, cond, is_some, filter, map, nat_le, refl, sym, ap, subst, arith, inl, inr}
use Rattle.std.specs.List.{list_all, list_any}
use Rattle.std.proofs.lemmas.Bool.{cases_Bool, eqb-true, eq-eqb, lt-leb}
use Rattle.std.proofs.lemmas.List.Folds.{list_all-append}
use Rattle.lk_model.specs.Lists.{is_empty}
use Rattle.lk_model.specs.Formulas.Literal.{is_within}
use Rattle.lk_model.specs.Formulas.Formula.{clause_at}
use Rattle.lk_model.specs.Formulas.Crossed.{crossed_out}
use Rattle.lk_model.specs.Held.VariableSets.{is_in, premises_of}
use Rattle.lk_model.specs.Chains.Chain.{crossed_at, is_learned}
use Rattle.lk_model.specs.declared.crossed.Crossed.{Crossed}
use Rattle.lk_model.specs.declared.document.Step.{Step}
use Rattle.lk_model.proofs.Booleans.{and_true}
use Rattle.watch_prop.specs.declared.entry.Entry.{Entry}
use Rattle.watch_prop.specs.declared.entry.NumberedClause.{NumberedClause}
use Rattle.watch_prop.specs.Trail.{assignment_along, present_level, up_to_level}
use Rattle.watch_prop.specs.Propagation.{Propagation, IsPropagation, GoesOn, assigned, is_quiet, with_held, with_assigned, back_at, crossed_clauses}
use Rattle.watch_prop.proofs.Paths.{last_level, back_there}
use Rattle.lk_model.proofs.ListTests.{all_more}
use Rattle.lk_model.proofs.Literals.{filled}
use Rattle.watch_prop.proofs.Trails.{same_level}
use Rattle.watch_prop.proofs.Levels.{level_more, level_twice}
use Rattle.learning_laws.specs.Learned.{IsQuietBelow, IsLearnedFor, HoldsAll, held_step}
use Rattle.learning_laws.specs.QuietLaw.{QuietLaw}
use Rattle.learning_laws.proofs.Levels.{path_of, level_up_to}
use Rattle.learning_laws.proofs.News.{is_quiet_clause, none_held_inside, learned_quiet, false_apart_all, may_hold_learned, learned_same}
use Rattle.learning_laws.proofs.Tests.{never_both}

-- numbers that a test tells apart
ne_from : (a b : ℕ) → (a == b) ≡ false → a ≢ b
ne_from a b f e = never_both (a == b) (eq-eqb a b e) f

-- an empty trail has no level below
quiet_start : (p : Propagation) → p.trail ≡ [] → IsQuietBelow p
quiet_start p none = record { quiet = λ level lt. (let zero_level : present_level p.trail ≡ 0 = ap present_level none in absurd (omega (arith, lt, zero_level))) }

-- a literal is assigned where all is quiet
quiet_assigned : (p : Propagation) (l : ℤ) → IsPropagation p → is_quiet (assigned p) p.clauses ≡ true → IsQuietBelow p → IsQuietBelow (with_assigned p l)
quiet_assigned p l h quiet q = record {
  quiet = λ level lt.
      let e : Entry = record { lit = l; level = present_level p.trail + 1; reason = None } in
      let last = last_level p.trail e in
      let under : level < e.level = omega (arith, lt, last) in
      subst (λ (t : List Entry). is_quiet (assignment_along t) p.clauses ≡ true) (sym (level_more level p.trail e under))
      (elim (cases_Bool (level == present_level p.trail)) [
        | inl y ↦
            let same = eqb-true level (present_level p.trail) y in
            subst (λ (t : List Entry). is_quiet (assignment_along t) p.clauses ≡ true) (sym (back_there p.vars p.trail level (path_of p h) (omega (arith, same)))) quiet
        | inr y ↦
            let apart : level ≢ present_level p.trail = ne_from level (present_level p.trail) y in
            q.quiet level (omega (arith, under, apart))
      ]);
}

-- what comes at a level leaves what stands below it
pub stays_below : (level present : ℕ) (trail forced : List Entry) → level < present → list_all (λ (e : Entry). e.level == present && is_some e.reason) forced ≡ true
    → up_to_level level (trail ++ forced) ≡ up_to_level level trail
stays_below level present [] [] lt f = refl
stays_below level present [] (e ∷ forced) lt f =
    let both = and_true (e.level == present && is_some e.reason) _ f in
    let here = eqb-true e.level present (and_true (e.level == present) (is_some e.reason) both.0).0 in
    rw (lt-leb e.level level (omega (arith, here, lt))) (stays_below level present [] forced lt both.1)
stays_below level present (d ∷ trail) forced lt f = ap (λ (t : List Entry). cond (nat_le d.level level) (d ∷ t) t) (stays_below level present trail forced lt f)

-- clauses force literals at the present level
quiet_goes_on : (p q : Propagation) → GoesOn p q → IsQuietBelow p → IsQuietBelow q
quiet_goes_on p q g h = record {
  quiet = λ level lt.
      let present : present_level q.trail ≡ present_level p.trail = ap present_level g.trail ∙ same_level p.trail g.forced (present_level p.trail) refl g.levels in
      let under : level < present_level p.trail = omega (arith, lt, present) in
      let same : up_to_level level q.trail ≡ up_to_level level p.trail =
      ap (up_to_level level) g.trail ∙ stays_below level (present_level p.trail) p.trail g.forced under g.levels in
      subst (λ (t : List Entry). is_quiet (assignment_along t) q.clauses ≡ true) (sym same)
      (subst (λ (cs : List NumberedClause). is_quiet (assignment_along (up_to_level level p.trail)) cs ≡ true) (sym g.clauses) (h.quiet level under));
}

-- back at a level
quiet_back : (p : Propagation) (level : ℕ) → IsPropagation p → level ≤ present_level p.trail → IsQuietBelow p → IsQuietBelow (back_at p level)
quiet_back p level h le q = record {
  quiet = λ low lt.
      let present = level_up_to p level h le in
      subst (λ (t : List Entry). is_quiet (assignment_along t) p.clauses ≡ true) (sym (level_twice low level p.trail (omega (arith, lt, present))))
      (q.quiet low (omega (arith, lt, present, le)));
}

-- a learned clause is held after the return to its level
quiet_learned : (p : Propagation) (c : List ℤ) (u : ℤ) (number level : ℕ) → IsPropagation p → IsQuietBelow p → IsLearnedFor p.trail c u level
    → IsQuietBelow (with_held (back_at p level) number c)
quiet_learned p c u number level h q l = record {
  quiet = λ low lt.
      let below = l.below in
      let present = level_up_to p level h (omega (arith, below)) in
      let under : low < level = omega (arith, lt, present) in
      let old = quiet_back p level h (omega (arith, below)) q in
      all_more (λ (d : NumberedClause). is_quiet_clause (assignment_along (up_to_level low (up_to_level level p.trail))) d.lits) p.clauses
      (record { number = number; lits = c }) (old.quiet low lt)
      (subst (λ (t : List Entry). is_quiet_clause (assignment_along t) c ≡ true) (sym (level_twice low level p.trail (omega (arith, under))))
      (learned_quiet p c u level low h l under));
}

-- WHAT THE ROUND HOLDS

-- no crossed clause of a position that is not empty is inside
none_crossed : (over : Crossed) (steps : List Step) (c : List ℤ) (ps : List ℕ)
    → list_all (λ (d : NumberedClause). not (is_within d.lits c)) (filter (λ (d : NumberedClause). not (is_empty d.lits))
    (map (λ p. record { number = p; lits = crossed_out (is_in over.blocked.now) (clause_at over.formula.now p) }) ps)) ≡ true
    → list_any (λ p. not (is_empty (crossed_at (premises_of over steps) p)) && is_within (crossed_at (premises_of over steps) p) c) ps ≡ false
none_crossed over steps c [] f = refl
none_crossed over steps c (p ∷ ps) f = at_clause (crossed_out (is_in over.blocked.now) (clause_at over.formula.now p)) f (none_crossed over steps c ps)
  where
    rest_of : List NumberedClause
    rest_of = filter (λ (d : NumberedClause). not (is_empty d.lits))
        (map (λ p. record { number = p; lits = crossed_out (is_in over.blocked.now) (clause_at over.formula.now p) }) ps)

    later : Bool
    later = list_any (λ p. not (is_empty (crossed_at (premises_of over steps) p)) && is_within (crossed_at (premises_of over steps) p) c) ps

    by_test : (b x : Bool) → (not b && x) ≡ true → (x ≡ true → later ≡ false) → (b || later) ≡ false
    by_test true x f rest = absurd (let z : ⊥ = cc in z)
    by_test false x f rest = rest f

    at_clause : (d : List ℤ) → list_all (λ (d : NumberedClause). not (is_within d.lits c)) (cond (not (is_empty d)) (record { number = p; lits = d } ∷ rest_of) rest_of) ≡ true
        → (list_all (λ (d : NumberedClause). not (is_within d.lits c)) rest_of ≡ true → later ≡ false)
        → ((not (is_empty d) && is_within d c) || later) ≡ false
    at_clause [] f rest = rest f
    at_clause (l ∷ d) f rest = by_test (is_within (l ∷ d) c) (list_all (λ (d : NumberedClause). not (is_within d.lits c)) rest_of) f rest

-- and no clause of a step
none_stepped : (c : List ℤ) (steps : List Step) → list_all (λ (d : NumberedClause). not (is_within d.lits c)) (map held_step steps) ≡ true
    → list_any (λ (s : Step). is_within s.clause c) steps ≡ false
none_stepped c [] f = refl
none_stepped c (s ∷ steps) f = by_test (is_within s.clause c) f (none_stepped c steps)
  where
    by_test : (b : Bool) → (not b && list_all (λ (d : NumberedClause). not (is_within d.lits c)) (map held_step steps)) ≡ true
        → (list_all (λ (d : NumberedClause). not (is_within d.lits c)) (map held_step steps) ≡ true → list_any (λ (s : Step). is_within s.clause c) steps ≡ false)
        → (b || list_any (λ (s : Step). is_within s.clause c) steps) ≡ false
    by_test true f rest = absurd (let z : ⊥ = cc in z)
    by_test false f rest = rest f

-- so the clause is learned for the round
learned_in_round : (over : Crossed) (steps : List Step) (p : Propagation) (c : List ℤ) (u : ℤ) (level : ℕ) → IsPropagation p → IsQuietBelow p → HoldsAll over steps p
    → IsLearnedFor p.trail c u level → is_learned (premises_of over steps) c ≡ true
unfolding is_learned
learned_in_round over steps p c u level h q holds l =
    let t : NumberedClause → Bool = λ (d : NumberedClause). not (is_within d.lits c) in
    let all : list_all t (crossed_clauses over ++ map held_step steps) ≡ true = subst (λ (cs : List NumberedClause). list_all t cs ≡ true) holds (none_held_inside p c u level h q l) in
    let both = and_true (list_all t (crossed_clauses over)) (list_all t (map held_step steps)) (sym (list_all-append t (crossed_clauses over) (map held_step steps)) ∙ all) in
    rw (filled c u l.there, false_apart_all p c h l.falsified, none_crossed over steps c over.part.now both.0, none_stepped c steps both.1) refl

-- all of it
pub quiet_law : QuietLaw
quiet_law = record {
  start = quiet_start;
  assigns = quiet_assigned;
  goes_on = quiet_goes_on;
  back = quiet_back;
  learns = quiet_learned;
  new = none_held_inside;
  apart = false_apart_all;
  may_hold = may_hold_learned;
  round = learned_in_round;
  same = learned_same;
}
