-- What a quiet propagation satisfies, and that no blocked variable is set.
use Rattle.std.proofs.Common.{ap, ◌≤◌, nat_lt, length, slice_index_or, ◌⊎◌, nat_le, append_assoc, ◌+◌, ◌≡◌, ◌∙◌, ℕ, zero, suc, ◌<◌, ◌==◌, ◌++◌, ◌∷◌, [], Bool, true, false, cond, not, ◌&&◌, ◌||◌, List, ℤ, pos, negsuc, Option, Some, None, IsNone, IsSome, is_some, unwrap_or, option_map, filter, map, refl, sym, subst, arith, inl, inr}
use Rattle.std.specs.List.{list_all}
use Rattle.std.specs.Ordering.{int_eq}
use Rattle.std.proofs.lemmas.Bool.{cases_Bool, leb-true, leb-false, eqb-true, eq-eqb, and_from, not-true}
use Rattle.std.proofs.lemmas.List.Folds.{list_all-append}
use Rattle.lk_model.specs.Lists.{among, is_empty}
use Rattle.lk_model.specs.Formulas.Literal.{variable, complement, contains, is_literal, is_clause, is_distinct, is_positive}
use Rattle.lk_model.specs.Formulas.Formula.{clause_at}
use Rattle.lk_model.specs.Formulas.Assignment.{Assignment, makes_true, satisfies}
use Rattle.lk_model.specs.Held.PartialValues.{assignment_by}
use Rattle.lk_model.specs.Formulas.Crossed.{crossed_out}
use Rattle.lk_model.specs.Held.VariableSets.{is_in}
use Rattle.lk_model.specs.declared.crossed.Crossed.{Crossed}
use Rattle.lk_model.specs.declared.document.Step.{Step}
use Rattle.lk_model.proofs.Booleans.{and_true, or_left, or_right, or_true}
use Rattle.lk_model.proofs.ListTests.{passes_each, all_more}
use Rattle.lk_model.proofs.Founds.{all_literals}
use Rattle.lk_model.proofs.Ranks.{literal_bounds}
use Rattle.lk_model.proofs.Literals.{int_self, same_int, variable_complement}
use Rattle.kernel_laws.proofs.Clauses.{from_filtered}
use Rattle.watch_prop.specs.declared.entry.Entry.{Entry}
use Rattle.watch_prop.specs.declared.entry.NumberedClause.{NumberedClause}
use Rattle.watch_prop.specs.Trail.{literals_of, false_in, entry_of, present_level}
use Rattle.watch_prop.specs.Propagation.{Propagation, IsPropagation, GoesOn, assigned, is_quiet, crossed_clauses, with_held, with_assigned, back_at}
use Rattle.lk_model.specs.Formulas.Units.{is_false, is_unit_under}
use Rattle.watch_prop.proofs.Trails.{entry_there}
use Rattle.watch_prop.proofs.Along.{literal_on_path}
use Rattle.watch_prop.proofs.Units.{each_numbered}
use Rattle.learning_laws.specs.Learned.{are_false_in, HoldsAll, held_step}
use Rattle.learning_laws.specs.ModelLaw.{is_open, IsOpen, clause_over, ModelLaw}
use Rattle.learning_laws.proofs.Levels.{path_of}
use Rattle.learning_laws.proofs.News.{is_quiet_clause}
use Rattle.learning_laws.proofs.Splits.{reason_of_entry}
use Rattle.learning_laws.proofs.Tests.{not_both}

-- NO BLOCKED VARIABLE

-- the open literals of the trail
abbrev open_trail : Crossed → List Entry → Bool
open_trail over trail = list_all (λ (e : Entry). is_open over e.lit) trail

-- a filtered list passes what the list passes
all_filtered : {X : Type 0} (t q : X → Bool) (xs : List X) → list_all t xs ≡ true → list_all t (filter q xs) ≡ true
all_filtered t q [] h = refl
all_filtered {X} t q (x ∷ xs) h = let both = and_true (t x) (list_all t xs) h in at_test (q x) both.0 (all_filtered t q xs both.1)
  where
    at_test : (b : Bool) → t x ≡ true → list_all t (filter q xs) ≡ true → list_all t (cond b (x ∷ filter q xs) (filter q xs)) ≡ true
    at_test true here rest = and_from (t x) (list_all t (filter q xs)) here rest
    at_test false here rest = rest

-- crossed clauses contain no literal of a blocked variable
crossed_open : (over : Crossed) (ps : List ℕ)
    → list_all (λ (d : NumberedClause). list_all (is_open over) d.lits)
    (map (λ p. record { number = p; lits = crossed_out (is_in over.blocked.now) (clause_at over.formula.now p) }) ps) ≡ true
crossed_open over [] = refl
crossed_open over (p ∷ ps) =
    and_from (list_all (is_open over) (crossed_out (is_in over.blocked.now) (clause_at over.formula.now p))) _
    (all_literals (is_open over) (crossed_out (is_in over.blocked.now) (clause_at over.formula.now p))
    (λ l m. (from_filtered (λ l. not (is_in over.blocked.now (variable l))) (clause_at over.formula.now p) l m).0))
    (crossed_open over ps)

-- at the start
open_start : (over : Crossed) (p : Propagation) → p.clauses ≡ crossed_clauses over → p.trail ≡ [] → IsOpen over p
open_start over p clauses none = record {
  trail = subst (λ (t : List Entry). open_trail over t ≡ true) (sym none) refl;
  clauses = subst (λ (cs : List NumberedClause). list_all (λ (d : NumberedClause). list_all (is_open over) d.lits) cs ≡ true) (sym clauses)
      (all_filtered (λ (d : NumberedClause). list_all (is_open over) d.lits) (λ (d : NumberedClause). not (is_empty d.lits))
      (map (λ p. record { number = p; lits = crossed_out (is_in over.blocked.now) (clause_at over.formula.now p) }) over.part.now)
      (crossed_open over over.part.now));
}

-- with an assigned literal
open_assigned : (over : Crossed) (p : Propagation) (l : ℤ) → is_open over l ≡ true → IsOpen over p → IsOpen over (with_assigned p l)
open_assigned over p l open_literal h = record {
  trail = all_more (λ (e : Entry). is_open over e.lit) p.trail (record { lit = l; level = present_level p.trail + 1; reason = None }) h.trail open_literal;
  clauses = h.clauses;
}

-- a literal that a clause forces is one of the clause
forced_open : (over : Crossed) (q : Propagation) (before forced : List Entry) (level : ℕ) → IsPropagation q → q.trail ≡ before ++ forced
    → list_all (λ (e : Entry). e.level == level && is_some e.reason) forced ≡ true
    → list_all (λ (d : NumberedClause). list_all (is_open over) d.lits) q.clauses ≡ true → open_trail over forced ≡ true
forced_open over q before [] level h split levels open_clauses = refl
forced_open over q before (e ∷ forced) level h split levels open_clauses =
    let both = and_true (e.level == level && is_some e.reason) _ levels in
    let split' : q.trail ≡ (before ++ e ∷ []) ++ forced = split ∙ sym (append_assoc before (e ∷ []) forced) in
    and_from (is_open over e.lit) (open_trail over forced)
    (at_reason e.reason refl (and_true (e.level == level) (is_some e.reason) both.0).1)
    (forced_open over q (before ++ e ∷ []) forced level h split' both.1 open_clauses)
  where
    at_reason : (r : Option ℕ) → e.reason ≡ r → is_some r ≡ true → is_open over e.lit ≡ true
    at_reason None f s = absurd (let z : ⊥ = cc in z)
    at_reason (Some k) f s =
        let r = reason_of_entry q before e forced k h split f in
        let there = and_true (contains r.clause e.lit) (list_all (λ k. int_eq k e.lit || contains (literals_of before) (complement k)) r.clause) r.force in
        passes_each (is_open over) r.clause e.lit (each_numbered (list_all (is_open over)) q.clauses k r.clause open_clauses r.named) there.0

-- so propagation keeps it
open_goes_on : (over : Crossed) (p q : Propagation) → IsPropagation q → GoesOn p q → IsOpen over p → IsOpen over q
open_goes_on over p q h g o =
    let clauses : list_all (λ (d : NumberedClause). list_all (is_open over) d.lits) q.clauses ≡ true =
    subst (λ (cs : List NumberedClause). list_all (λ (d : NumberedClause). list_all (is_open over) d.lits) cs ≡ true) (sym g.clauses) o.clauses in
    record {
      trail = subst (λ (t : List Entry). open_trail over t ≡ true) (sym g.trail)
          (list_all-append (λ (e : Entry). is_open over e.lit) p.trail g.forced
          ∙ and_from (open_trail over p.trail) (open_trail over g.forced) o.trail
          (forced_open over q p.trail g.forced (present_level p.trail) h g.trail g.levels clauses));
      clauses = clauses;
    }

-- and so does the return to a level
open_back : (over : Crossed) (p : Propagation) (level : ℕ) → IsOpen over p → IsOpen over (back_at p level)
open_back over p level h = record {
  trail = all_filtered (λ (e : Entry). is_open over e.lit) (λ (e : Entry). nat_le e.level level) p.trail h.trail;
  clauses = h.clauses;
}

-- one more clause
open_held : (over : Crossed) (p : Propagation) (number : ℕ) (c : List ℤ) → list_all (is_open over) c ≡ true → IsOpen over p → IsOpen over (with_held p number c)
open_held over p number c o h = record {
  trail = h.trail;
  clauses = all_more (λ (d : NumberedClause). list_all (is_open over) d.lits) p.clauses (record { number = number; lits = c }) h.clauses o;
}

-- a literal of the trail is open
literal_open : (over : Crossed) (trail : List Entry) (l : ℤ) → open_trail over trail ≡ true → contains (literals_of trail) l ≡ true → is_open over l ≡ true
literal_open over [] l o m = absurd (let z : ⊥ = cc in z)
literal_open over (e ∷ trail) l o m =
    let both = and_true (is_open over e.lit) (open_trail over trail) o in
    elim (or_true (int_eq l e.lit) (contains (literals_of trail) l) m) [
      | inl here ↦ subst (λ (k : ℤ). is_open over k ≡ true) (sym (same_int l e.lit here)) both.0
      | inr later ↦ literal_open over trail l both.1 later
    ]

-- so each literal of a false clause is
false_open : (over : Crossed) (p : Propagation) (c : List ℤ) → are_false_in p.trail c ≡ true → IsOpen over p → list_all (is_open over) c ≡ true
false_open over p c f h = all_literals (is_open over) c (λ l m.
    (subst (λ (v : ℕ). not (is_in over.blocked.now v) ≡ true) (variable_complement l)
    (literal_open over p.trail (complement l) h.trail (passes_each (false_in p.trail) c l f m))))

-- no blocked variable has an entry
blocked_unset : (over : Crossed) (trail : List Entry) (v : ℕ) → open_trail over trail ≡ true → is_in over.blocked.now v ≡ true → entry_of trail v ≡ None
blocked_unset over [] v o b = refl
blocked_unset over (e ∷ trail) v o b =
    let both = and_true (is_open over e.lit) (open_trail over trail) o in
    at_test (variable e.lit == v) refl both.0 (blocked_unset over trail v both.1 b)
  where
    at_test : (t : Bool) → (variable e.lit == v) ≡ t → is_open over e.lit ≡ true → entry_of trail v ≡ None → cond t (Some e) (entry_of trail v) ≡ None
    at_test true f o rest =
        absurd (not_both (is_in over.blocked.now v) (subst (λ (n : ℕ). not (is_in over.blocked.now n) ≡ true) (eqb-true (variable e.lit) v f) o) b)
    at_test false f o rest = rest

-- so none is set
open_unset : (over : Crossed) (p : Propagation) (v : ℕ) → IsOpen over p → is_in over.blocked.now v ≡ true → IsNone (assigned p v)
open_unset over p v h b =
    subst (λ (o : Option Entry). IsNone (option_map (λ (e : Entry). is_positive e.lit) o)) (sym (blocked_unset over p.trail v h.trail b)) refl

-- A MODEL

-- a literal whose variable is set is true, or its complement is
set_either : (φ : Assignment) (l : ℤ) → 0 < variable l → is_some (φ (variable l)) ≡ true → (makes_true φ l || makes_true φ (complement l)) ≡ true
set_either φ (pos zero) low s = absurd (omega arith)
set_either φ (pos (suc k)) low s = at_value (φ (suc k)) s
  where
    at_value : (o : Option Bool) → is_some o ≡ true → (unwrap_or o false || not (unwrap_or o true)) ≡ true
    at_value None s = absurd (let z : ⊥ = cc in z)
    at_value (Some true) s = refl
    at_value (Some false) s = refl
set_either φ (negsuc k) low s = at_value (φ (suc k)) s
  where
    at_value : (o : Option Bool) → is_some o ≡ true → (not (unwrap_or o true) || unwrap_or o false) ≡ true
    at_value None s = absurd (let z : ⊥ = cc in z)
    at_value (Some true) s = refl
    at_value (Some false) s = refl

-- a clause that is not false, and whose variables are set, is satisfied
set_satisfied : (φ : Assignment) (c : List ℤ) → ((l : ℤ) → contains c l ≡ true → (0 < variable l) × (is_some (φ (variable l)) ≡ true)) → is_false φ c ≡ false
    → satisfies φ c ≡ true
set_satisfied φ [] set f = absurd (let z : ⊥ = cc in z)
set_satisfied φ (l ∷ c) set f =
    let here = set l (or_left (int_eq l l) (contains c l) (int_self l)) in
    at_tests (makes_true φ l) (makes_true φ (complement l)) (set_either φ l here.0 here.1) f
    (set_satisfied φ c (λ k m. set k (or_right (int_eq k l) (contains c k) m)))
  where
    at_tests : (a b : Bool) → (a || b) ≡ true → (b && is_false φ c) ≡ false → (is_false φ c ≡ false → satisfies φ c ≡ true) → (a || satisfies φ c) ≡ true
    at_tests true b e f rest = refl
    at_tests false true e f rest = rest f
    at_tests false false e f rest = absurd (let z : ⊥ = cc in z)

-- each clause of the list is over the variables and quiet
abbrev is_fine : Propagation → NumberedClause → Bool
is_fine p d = (not (is_empty d.lits) && is_clause p.vars d.lits) && is_quiet_clause (assigned p) d.lits

-- two tests of a list together
all_both : {X : Type 0} (s t : X → Bool) (xs : List X) → list_all s xs ≡ true → list_all t xs ≡ true → list_all (λ x. s x && t x) xs ≡ true
all_both s t [] a b = refl
all_both s t (x ∷ xs) a b =
    let f = and_true (s x) (list_all s xs) a in
    let g = and_true (t x) (list_all t xs) b in
    rw (f.0, g.0) (all_both s t xs f.1 g.1)

-- so is each crossed clause that is not empty, and where its variables are set it is satisfied
crossed_satisfied : (over : Crossed) (p : Propagation) (ps : List ℕ)
    → list_all (is_fine p) (filter (λ (d : NumberedClause). not (is_empty d.lits))
    (map (λ p. record { number = p; lits = crossed_out (is_in over.blocked.now) (clause_at over.formula.now p) }) ps)) ≡ true
    → ((position : ℕ) (l : ℤ) → among ps position ≡ true → contains (clause_over over position) l ≡ true → IsSome (assigned p (variable l)))
    → list_all (λ position. is_empty (clause_over over position) || satisfies (assigned p) (clause_over over position)) ps ≡ true
crossed_satisfied over p [] f set = refl
crossed_satisfied over p (k ∷ ps) f set =
    at_clause (clause_over over k) (set k) f (λ g. crossed_satisfied over p ps g (λ position l m. set position l (or_right (k == position) (among ps position) m)))
  where
    rest_of : List NumberedClause
    rest_of = filter (λ (d : NumberedClause). not (is_empty d.lits))
        (map (λ p. record { number = p; lits = crossed_out (is_in over.blocked.now) (clause_at over.formula.now p) }) ps)

    later : Bool
    later = list_all (λ position. is_empty (clause_over over position) || satisfies (assigned p) (clause_over over position)) ps

    at_clause : (c : List ℤ) → ((l : ℤ) → among (k ∷ ps) k ≡ true → contains c l ≡ true → IsSome (assigned p (variable l)))
        → list_all (is_fine p) (cond (not (is_empty c)) (record { number = k; lits = c } ∷ rest_of) rest_of) ≡ true
        → (list_all (is_fine p) rest_of ≡ true → later ≡ true) → ((is_empty c || satisfies (assigned p) c) && later) ≡ true
    at_clause [] set f rest = rest f
    at_clause (l ∷ c) set f rest =
        let both = and_true (is_fine p (record { number = k; lits = l ∷ c })) (list_all (is_fine p) rest_of) f in
        let parts = and_true (not (is_empty (l ∷ c)) && is_clause p.vars (l ∷ c)) (is_quiet_clause (assigned p) (l ∷ c)) both.0 in
        let lits = (and_true (list_all (is_literal p.vars) (l ∷ c)) (is_distinct (l ∷ c)) parts.0).0 in
        let not_false = not-true (is_false (assigned p) (l ∷ c)) (and_true (not (is_false (assigned p) (l ∷ c))) (not (is_unit_under (assigned p) (l ∷ c))) parts.1).0 in
        and_from (satisfies (assigned p) (l ∷ c)) later
        (set_satisfied (assigned p) (l ∷ c) (λ x m. (
          (let bounds = literal_bounds p.vars x (passes_each (is_literal p.vars) (l ∷ c) x lits m) in let low : 0 < variable x = omega (arith, bounds.0) in low),
          set x (or_left (k == k) (among ps k) (eq-eqb k k refl)) m,
        )) not_false)
        (rest both.1)

-- of all positions of the part
quiet_satisfied : (over : Crossed) (steps : List Step) (p : Propagation) → IsPropagation p → HoldsAll over steps p → is_quiet (assigned p) p.clauses ≡ true
    → ((position : ℕ) (l : ℤ) → among over.part.now position ≡ true → contains (clause_over over position) l ≡ true → IsSome (assigned p (variable l)))
    → list_all (λ position. is_empty (clause_over over position) || satisfies (assigned p) (clause_over over position)) over.part.now ≡ true
quiet_satisfied over steps p h holds quiet set =
    let all = all_both (λ (d : NumberedClause). not (is_empty d.lits) && is_clause p.vars d.lits) (λ (d : NumberedClause). is_quiet_clause (assigned p) d.lits) p.clauses h.clauses quiet in
    let parts : list_all (is_fine p) (crossed_clauses over ++ map held_step steps) ≡ true = subst (λ (cs : List NumberedClause). list_all (is_fine p) cs ≡ true) holds all in
    crossed_satisfied over p over.part.now
    (and_true (list_all (is_fine p) (crossed_clauses over)) (list_all (is_fine p) (map held_step steps))
    (sym (list_all-append (is_fine p) (crossed_clauses over) (map held_step steps)) ∙ parts)).0 set

-- VALUES

-- an entry's variable is one from 1 to n
entry_bounds : (p : Propagation) (v : ℕ) → IsPropagation p → (v ≡ 0) ⊎ (p.vars < v) → assigned p v ≡ None
entry_bounds p v h out = at_entry (entry_of p.trail v) refl
  where
    at_entry : (o : Option Entry) → entry_of p.trail v ≡ o → option_map (λ (e : Entry). is_positive e.lit) o ≡ None
    at_entry None f = refl
    at_entry (Some e) f =
        let r = entry_there p.trail v e f in
        let bounds = literal_bounds p.vars e.lit (literal_on_path p.vars p.trail e.lit (path_of p h) r.there) in
        let on = r.on in
        absurd (elim out [
          | inl y ↦ omega (arith, bounds.0, on, y)
          | inr y ↦ omega (arith, bounds.1, on, y)
        ])

-- nothing stands past the end of a list
past_end : (values : List (Option Bool)) (k : ℕ) → length values ≤ k → slice_index_or values k None ≡ None
past_end [] k le = refl
past_end (x ∷ values) zero le = absurd (omega (arith, le))
past_end (x ∷ values) (suc k) le = past_end values k (omega (arith, le))

-- a list of the values of all variables is the assignment
values_assigned : (p : Propagation) (values : List (Option Bool)) → IsPropagation p → length values ≡ p.vars
    → ((k : ℕ) → k < p.vars → slice_index_or values k None ≡ assigned p (k + 1)) → (v : ℕ) → assignment_by values v ≡ assigned p v
values_assigned p values h long each zero = sym (entry_bounds p zero h (inl refl))
values_assigned p values h long each (suc k) = elim (cases_Bool (nat_lt k p.vars)) [
  | inl y ↦ each k (let lt = leb-true (suc k) p.vars y in omega (arith, lt)) ∙ ap (assigned p) (let e : k + 1 ≡ suc k = omega arith in e)
  | inr y ↦
      let past = leb-false (suc k) p.vars y in
      past_end values k (omega (arith, past, long)) ∙ sym (entry_bounds p (suc k) h (inr (omega (arith, past))))
]

-- assignments that agree make the same literals true
true_same_values : (φ ψ : Assignment) (l : ℤ) → ((v : ℕ) → φ v ≡ ψ v) → makes_true φ l ≡ makes_true ψ l
true_same_values φ ψ (pos v) h = ap (λ (o : Option Bool). unwrap_or o false) (h v)
true_same_values φ ψ (negsuc k) h = ap (λ (o : Option Bool). not (unwrap_or o true)) (h (suc k))

-- and satisfy the same clauses
satisfies_same : (φ ψ : Assignment) (c : List ℤ) → ((v : ℕ) → φ v ≡ ψ v) → satisfies φ c ≡ satisfies ψ c
satisfies_same φ ψ [] h = refl
satisfies_same φ ψ (l ∷ c) h =
    ap (λ (b : Bool). b || satisfies φ c) (true_same_values φ ψ l h) ∙ ap (λ (b : Bool). makes_true ψ l || b) (satisfies_same φ ψ c h)

-- all of it
pub model_law : ModelLaw
model_law = record {
  start = open_start;
  assigns = open_assigned;
  goes_on = open_goes_on;
  back = open_back;
  holds = open_held;
  falsified = λ over p c h f o. false_open over p c f o;
  unset = open_unset;
  satisfied = quiet_satisfied;
  values = values_assigned;
  same = satisfies_same;
}
