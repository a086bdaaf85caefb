-- Where a search meets a conflict above level 0, unit propagation alone decides nothing: at level 0 it is at rest, and the
-- clause of the conflict is not satisfied there.
use Rattle.std.proofs.Common.{◌≡◌, ◌∙◌, ℕ, ◌<◌, ◌==◌, ◌||◌, ◌&&◌, ◌++◌, ◌∷◌, [], Bool, true, false, not, cond, List, ℤ, Option, Some, None, find, map, filter, option_map, refl, sym, ap, subst, arith, inl, inr}
use Rattle.std.specs.List.{list_all, list_any}
use Rattle.std.specs.Ordering.{int_eq}
use Rattle.std.specs.Option.{option_map_or}
use Rattle.std.proofs.lemmas.Bool.{and_from, false_from_ne_true, both_ways}
use Rattle.std.proofs.lemmas.List.{map-append}
use Rattle.lk_model.specs.Lists.{is_empty}
use Rattle.lk_model.specs.Formulas.Literal.{variable, is_literal, is_distinct}
use Rattle.lk_model.specs.Formulas.Formula.{clause_at}
use Rattle.lk_model.specs.Formulas.Crossed.{crossed_out}
use Rattle.lk_model.specs.Formulas.Assignment.{Assignment, makes_true, satisfies}
use Rattle.lk_model.specs.Formulas.Units.{is_false, is_unit_under, IsUndecided}
use Rattle.lk_model.specs.Held.VariableSets.{is_in}
use Rattle.lk_model.specs.Chains.Searches.{crossed_clauses_of, searched}
use Rattle.lk_model.specs.declared.crossed.Crossed.{Crossed}
use Rattle.lk_model.specs.declared.document.Step.{Step}
use Rattle.lk_model.proofs.Booleans.{and_true, or_true, or_left, or_right}
use Rattle.lk_model.proofs.ListTests.{passes_each}
use Rattle.lk_model.proofs.Ranks.{literal_bounds}
use Rattle.lk_model.proofs.Variables.{literal_passing}
use Rattle.refutation_log.specs.Derivation.{Derivation}
use Rattle.watch_prop.specs.declared.entry.Entry.{Entry}
use Rattle.watch_prop.specs.declared.entry.NumberedClause.{NumberedClause}
use Rattle.watch_prop.specs.Trail.{true_in, false_in, assignment_along, up_to_level, clause_numbered}
use Rattle.watch_prop.specs.Propagation.{Propagation, IsPropagation, assigned}
use Rattle.watch_prop.proofs.Along.{makes_true_along}
use Rattle.watch_prop.proofs.Truths.{no_sign_twice}
use Rattle.learning_laws.specs.Learned.{held_step, HoldsAll}
use Rattle.learning_laws.proofs.Conflicts.{clause_of_held, held_false}
use Rattle.learning_laws.proofs.Levels.{path_of, path_up_to}
use Rattle.learning_laws.proofs.TrailLaws.{trail_law}
use Rattle.cdcl_core.specs.Decision.{MeetsConflict}
use Rattle.general_kernel.proofs.Needed.{round_of}

-- THE CLAUSES

-- without their numbers
abbrev lists_of : List NumberedClause → List (List ℤ)
lists_of clauses = map (λ (c : NumberedClause). c.lits) clauses

lists_crossed : (over : Crossed) (ps : List ℕ)
    → lists_of (filter (λ (c : NumberedClause). not (is_empty c.lits))
    (map (λ p. record { number = p; lits = crossed_out (is_in over.blocked.now) (clause_at over.formula.now p) }) ps))
    ≡ crossed_clauses_of over.formula.now (is_in over.blocked.now) ps
lists_crossed over [] = refl
lists_crossed over (p ∷ ps) = at (is_empty here) (lists_crossed over ps)
  where
    here : List ℤ
    here = crossed_out (is_in over.blocked.now) (clause_at over.formula.now p)

    rest_of : List NumberedClause
    rest_of = filter (λ (c : NumberedClause). not (is_empty c.lits))
        (map (λ p. record { number = p; lits = crossed_out (is_in over.blocked.now) (clause_at over.formula.now p) }) ps)

    at : (b : Bool) → lists_of rest_of ≡ crossed_clauses_of over.formula.now (is_in over.blocked.now) ps
        → lists_of (cond (not b) (record { number = p; lits = here } ∷ rest_of) rest_of)
        ≡ cond (not b) (here ∷ crossed_clauses_of over.formula.now (is_in over.blocked.now) ps) (crossed_clauses_of over.formula.now (is_in over.blocked.now) ps)
    at true e = e
    at false e = ap (λ (cs : List (List ℤ)). here ∷ cs) e

lists_steps : (steps : List Step) → lists_of (map held_step steps) ≡ map (λ (s : Step). s.clause) steps
lists_steps [] = refl
lists_steps (s ∷ steps) = ap (λ (cs : List (List ℤ)). s.clause ∷ cs) (lists_steps steps)

-- what a search holds is what a round searches in
lists_held : (over : Crossed) (steps : List Step) (p : Propagation) → HoldsAll over steps p
    → lists_of p.clauses ≡ searched over.formula.now (is_in over.blocked.now) over.part.now (round_of steps)
lists_held over steps p h =
    ap lists_of h ∙ map-append (λ (c : NumberedClause). c.lits) _ (map held_step steps)
    ∙ ap (λ (cs : List (List ℤ)). cs ++ lists_of (map held_step steps)) (lists_crossed over over.part.now)
    ∙ ap (λ (cs : List (List ℤ)). crossed_clauses_of over.formula.now (is_in over.blocked.now) over.part.now ++ cs) (lists_steps steps)

all_lists : (t : List ℤ → Bool) (clauses : List NumberedClause) → list_all (λ (c : NumberedClause). t c.lits) clauses ≡ true → list_all t (lists_of clauses) ≡ true
all_lists t [] h = refl
all_lists t (c ∷ clauses) h =
    let both = and_true (t c.lits) (list_all (λ (c : NumberedClause). t c.lits) clauses) h in
    and_from (t c.lits) (list_all t (lists_of clauses)) both.0 (all_lists t clauses both.1)

any_list : (t : List ℤ → Bool) (clauses : List NumberedClause) (k : ℕ) (c : List ℤ) → clause_numbered clauses k ≡ Some c → t c ≡ true → list_any t (lists_of clauses) ≡ true
any_list t [] k c e h = absurd (let f : ⊥ = cc in f)
any_list t (d ∷ clauses) k c e h = at (d.number == k) e (λ later. any_list t clauses k c later h)
  where
    at : (b : Bool) → option_map (λ (c : NumberedClause). c.lits) (cond b (Some d) (find (λ (c : NumberedClause). c.number == k) clauses)) ≡ Some c
        → (clause_numbered clauses k ≡ Some c → list_any t (lists_of clauses) ≡ true) → (t d.lits || list_any t (lists_of clauses)) ≡ true
    at true e rest =
        let same : d.lits ≡ c = cc in
        or_left (t d.lits) (list_any t (lists_of clauses)) (subst (λ (x : List ℤ). t x ≡ true) (sym same) h)
    at false e rest = or_right (t d.lits) (list_any t (lists_of clauses)) (rest e)

-- THE CONFLICT

-- what is true stays so as the trail goes on
true_more : (part more : List Entry) (l : ℤ) → true_in part l ≡ true → true_in (part ++ more) l ≡ true
true_more [] more l h = absurd (let f : ⊥ = cc in f)
true_more (e ∷ part) more l h = elim (or_true (int_eq l e.lit) (true_in part l) h) [
  | inl here ↦ or_left (int_eq l e.lit) (true_in (part ++ more) l) here
  | inr later ↦ or_right (int_eq l e.lit) (true_in (part ++ more) l) (true_more part more l later)
]

-- a held clause that is false is not satisfied at level 0
unsatisfied_below : (p : Propagation) (k : ℕ) (c : List ℤ) → IsPropagation p → clause_numbered p.clauses k ≡ Some c → is_false (assigned p) c ≡ true
    → satisfies (assignment_along (up_to_level 0 p.trail)) c ≡ false
unsatisfied_below p k c h found f = false_from_ne_true (satisfies (assignment_along (up_to_level 0 p.trail)) c) (λ s.
    (let φ = assignment_along (up_to_level 0 p.trail) in
    let w = literal_passing (makes_true φ) c s in
    let lits = (and_true (list_all (is_literal p.vars) c) (is_distinct c) (clause_of_held p k c h found)).0 in
    let bounds = literal_bounds p.vars w.0 (passes_each (is_literal p.vars) c w.0 lits w.1) in
    let low : 0 < variable w.0 = omega (arith, bounds.0) in
    let part = trail_law.up_to p 0 h in
    let before : true_in (up_to_level 0 p.trail) w.0 ≡ true = sym (makes_true_along p.vars (up_to_level 0 p.trail) w.0 (path_up_to p 0 h) low) ∙ w.2 in
    let there : true_in p.trail w.0 ≡ true =
    subst (λ (t : List Entry). true_in t w.0 ≡ true) (sym part.whole) (true_more (up_to_level 0 p.trail) part.rest w.0 before) in
    let against : false_in p.trail w.0 ≡ true = passes_each (false_in p.trail) c w.0 (held_false p k c h found f) w.1 in
    both_ways (true_in p.trail w.0) (no_sign_twice p.vars p.trail w.0 (path_of p h) low against) there))

-- unit propagation rests at level 0, where a clause is not satisfied
pub undecided : (over : Crossed) (log : Derivation) → MeetsConflict over log
    → IsUndecided (searched over.formula.now (is_in over.blocked.now) over.part.now (round_of log.steps))
undecided over log m = at (clause_numbered p.clauses m.number) refl m.conflict
  where
    p : Propagation
    p = m.state

    φ : Assignment
    φ = assignment_along (up_to_level 0 m.state.trail)

    at : (o : Option (List ℤ)) → clause_numbered p.clauses m.number ≡ o → option_map_or (is_false (assigned p)) o false ≡ true
        → IsUndecided (searched over.formula.now (is_in over.blocked.now) over.part.now (round_of log.steps))
    at None found f = absurd (let z : ⊥ = cc in z)
    at (Some c) found f = subst (λ (cs : List (List ℤ)). IsUndecided cs) (lists_held over log.steps p m.solving.clauses) (record {
      φ = φ;
      rests = all_lists (λ c. not (is_false φ c) && not (is_unit_under φ c)) p.clauses (m.solving.quiet.quiet 0 m.above);
      unsatisfied = any_list (λ c. not (satisfies φ c)) p.clauses m.number c found (ap not (unsatisfied_below p m.number c m.solving.held found f));
    })
