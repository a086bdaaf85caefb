-- Why a learned clause contains no clause that is held.
use Rattle.std.proofs.Common.{◌≡◌, ◌≢◌, ◌∙◌, ℕ, ◌<◌, ◌==◌, ◌∷◌, [], Bool, true, false, not, ◌&&◌, ◌||◌, List, ℤ, Some, None, is_some, length, filter, refl, sym, ap, subst, arith, inl, inr}
use Rattle.std.specs.List.{list_all, list_any}
use Rattle.std.specs.Ordering.{int_eq}
use Rattle.std.proofs.lemmas.Bool.{cases_Bool, eqb-true, false_from_ne_true, and_from, not-true}
use Rattle.lk_model.specs.Lists.{is_empty}
use Rattle.lk_model.specs.Formulas.Literal.{variable, complement, contains, is_literal, is_clause, is_distinct, is_within, is_same_set, is_tautology}
use Rattle.lk_model.specs.Formulas.Assignment.{Assignment, makes_true, satisfies}
use Rattle.lk_model.proofs.Booleans.{and_true, or_left, or_right}
use Rattle.lk_model.proofs.ListTests.{passes_each}
use Rattle.lk_model.proofs.Founds.{all_literals}
use Rattle.lk_model.proofs.Literals.{int_self, variable_complement, complement_twice, filled}
use Rattle.kernel_laws.proofs.Clauses.{same_of, of_same}
use Rattle.watch_prop.specs.declared.entry.Entry.{Entry}
use Rattle.watch_prop.specs.declared.entry.NumberedClause.{NumberedClause}
use Rattle.watch_prop.specs.Trail.{literals_of, true_in, false_in, entry_of, assignment_along, level_of, present_level, up_to_level, forces}
use Rattle.watch_prop.specs.Propagation.{Propagation, IsPropagation, is_quiet, may_be_held}
use Rattle.lk_model.specs.Formulas.Units.{is_false, is_unset, is_unit_under}
use Rattle.watch_prop.proofs.Truths.{same_true, no_sign_twice}
use Rattle.watch_prop.proofs.Along.{false_along}
use Rattle.watch_prop.proofs.Units.{two_pass, forces_unit, unset_by_entry, not_true_unset}
use Rattle.learning_laws.specs.Learned.{are_false_in, IsQuietBelow, IsLearnedFor}
use Rattle.learning_laws.proofs.Levels.{path_up_to, path_of, unset_up_to, level_there, false_literal, false_low, false_up_to}
use Rattle.learning_laws.proofs.Tests.{never_both}

-- a clause that is neither false nor has just one unset literal and no true one
abbrev pub is_quiet_clause : Assignment → List ℤ → Bool
is_quiet_clause φ c = not (is_false φ c) && not (is_unit_under φ c)

-- CLAUSES INSIDE A LEARNED ONE

-- a clause of which each literal is false under the trail up to a level is false there
pub inside_false : (p : Propagation) (level : ℕ) (d : List ℤ) → IsPropagation p → is_clause p.vars d ≡ true
    → ((k : ℤ) → contains d k ≡ true → false_in (up_to_level level p.trail) k ≡ true) → is_quiet_clause (assignment_along (up_to_level level p.trail)) d ≡ true → ⊥
inside_false p level d h clause f quiet =
    let parts = and_true (list_all (is_literal p.vars) d) (is_distinct d) clause in
    let falsified = false_along p.vars (up_to_level level p.trail) d (path_up_to p level h) parts.0 (all_literals (false_in (up_to_level level p.trail)) d f) in
    let φ = assignment_along (up_to_level level p.trail) in
    never_both (is_false φ d) falsified (not-true (is_false φ d) (and_true (not (is_false φ d)) (not (is_unit_under φ d)) quiet).0)

-- and one with one literal that is unset there, and no other one that is not false, has just one unset literal
pub inside_unit : (p : Propagation) (level : ℕ) (d : List ℤ) (u : ℤ) → IsPropagation p → is_clause p.vars d ≡ true → contains d u ≡ true
    → entry_of (up_to_level level p.trail) (variable u) ≡ None
    → ((k : ℤ) → contains d k ≡ true → k ≢ u → false_in (up_to_level level p.trail) k ≡ true) → is_quiet_clause (assignment_along (up_to_level level p.trail)) d ≡ true → ⊥
inside_unit p level d u h clause there unset f quiet =
    let up = up_to_level level p.trail in
    let each : (k : ℤ) → contains d k ≡ true → (int_eq k u || contains (literals_of up) (complement k)) ≡ true = λ k m. elim (cases_Bool (int_eq k u)) [
      | inl y ↦ or_left (int_eq k u) (contains (literals_of up) (complement k)) y
      | inr y ↦ or_right (int_eq k u) (contains (literals_of up) (complement k)) (f k m (λ e. never_both (int_eq k u) (same_true k u e) y))
    ] in
    let force : forces d up u ≡ true = and_from (contains d u) _ there (all_literals (λ k. int_eq k u || contains (literals_of up) (complement k)) d each) in
    let unit = forces_unit p.vars up d u (path_up_to p level h) clause force unset in
    let φ = assignment_along up in
    never_both (is_unit_under φ d) unit (not-true (is_unit_under φ d) (and_true (not (is_false φ d)) (not (is_unit_under φ d)) quiet).1)

-- the literal of the present level is unset below it
pub learned_unset : (p : Propagation) (c : List ℤ) (u : ℤ) (level low : ℕ) → IsPropagation p → IsLearnedFor p.trail c u level → low < present_level p.trail
    → entry_of (up_to_level low p.trail) (variable u) ≡ None
learned_unset p c u level low h l lt = unset_up_to p low (present_level p.trail) (variable u) h (level_there p.trail (present_level p.trail) u l.present) lt

-- the other literals are false up to the level that the clause is learned for
pub learned_false : (p : Propagation) (c : List ℤ) (u : ℤ) (level : ℕ) (k : ℤ) → IsPropagation p → IsLearnedFor p.trail c u level → contains c k ≡ true → k ≢ u
    → false_in (up_to_level level p.trail) k ≡ true
learned_false p c u level k h l m apart = false_up_to p level k h (passes_each (false_in p.trail) c k l.falsified m) (l.others k m apart)

-- no clause that is held and quiet there is inside the learned one
pub none_inside : (p : Propagation) (c : List ℤ) (u : ℤ) (level : ℕ) (d : List ℤ) → IsPropagation p → IsLearnedFor p.trail c u level → is_clause p.vars d ≡ true
    → is_quiet_clause (assignment_along (up_to_level level p.trail)) d ≡ true → not (is_within d c) ≡ true
none_inside p c u level d h l clause quiet = at_test (is_within d c) refl
  where
    other : is_within d c ≡ true → (k : ℤ) → contains d k ≡ true → k ≢ u → false_in (up_to_level level p.trail) k ≡ true
    other within k m apart = learned_false p c u level k h l (passes_each (contains c) d k within m) apart

    inside : is_within d c ≡ true → ⊥
    inside within = elim (cases_Bool (contains d u)) [
      | inl y ↦ inside_unit p level d u h clause y (learned_unset p c u level level h l l.below) (other within) quiet
      | inr y ↦ inside_false p level d h clause
          (λ k m. other within k m (λ e. never_both (contains d u) (subst (λ (x : ℤ). contains d x ≡ true) e m) y)) quiet
    ]

    at_test : (b : Bool) → is_within d c ≡ b → not b ≡ true
    at_test true e = absurd (inside e)
    at_test false e = refl

-- so none of those that are held is
pub none_held_inside : (p : Propagation) (c : List ℤ) (u : ℤ) (level : ℕ) → IsPropagation p → IsQuietBelow p → IsLearnedFor p.trail c u level
    → list_all (λ (d : NumberedClause). not (is_within d.lits c)) p.clauses ≡ true
none_held_inside p c u level h q l = at_clauses p.clauses h.clauses (q.quiet level l.below)
  where
    at_clauses : (ds : List NumberedClause) → list_all (λ (d : NumberedClause). not (is_empty d.lits) && is_clause p.vars d.lits) ds ≡ true
        → is_quiet (assignment_along (up_to_level level p.trail)) ds ≡ true → list_all (λ (d : NumberedClause). not (is_within d.lits c)) ds ≡ true
    at_clauses [] a b = refl
    at_clauses (d ∷ ds) a b =
        let first = and_true (not (is_empty d.lits) && is_clause p.vars d.lits) _ a in
        let quiet = and_true (is_quiet_clause (assignment_along (up_to_level level p.trail)) d.lits) _ b in
        and_from (not (is_within d.lits c)) _
        (none_inside p c u level d.lits h l (and_true (not (is_empty d.lits)) (is_clause p.vars d.lits) first.0).1 quiet.0)
        (at_clauses ds first.1 quiet.1)

-- TWO UNSET LITERALS

-- a clause with two unset literals is quiet
pub two_unset : (φ : Assignment) (c : List ℤ) (a b : ℤ) → contains c a ≡ true → contains c b ≡ true → a ≢ b → is_unset φ a ≡ true → is_unset φ b ≡ true
    → is_quiet_clause φ c ≡ true
two_unset φ c a b in_a in_b apart ua ub =
    let many = two_pass (is_unset φ) c a b in_a in_b apart ua ub in
    let not_one : (length (filter (is_unset φ) c) == 1) ≡ false =
    false_from_ne_true (length (filter (is_unset φ) c) == 1) (λ e. (let one = eqb-true (length (filter (is_unset φ) c)) 1 e in omega (arith, many, one))) in
    let unset_other : is_unset φ (complement a) ≡ true = subst (λ (v : ℕ). not (is_some (φ v)) ≡ true) (sym (variable_complement a)) ua in
    let not_false : is_false φ c ≡ false = false_from_ne_true (is_false φ c)
    (λ e. never_both (makes_true φ (complement a)) (passes_each (λ k. makes_true φ (complement k)) c a e in_a) (not_true_unset φ (complement a) unset_other)) in
    rw (not_false, not_one) (at_test (satisfies φ c))
  where
    at_test : (s : Bool) → not (not s && false) ≡ true
    at_test true = refl
    at_test false = refl

-- a learned clause has two unset literals below the level that it is learned for
pub learned_quiet : (p : Propagation) (c : List ℤ) (u : ℤ) (level low : ℕ) → IsPropagation p → IsLearnedFor p.trail c u level → low < level
    → is_quiet_clause (assignment_along (up_to_level low p.trail)) c ≡ true
learned_quiet p c u level low h l lt =
    let up = up_to_level low p.trail in
    let w = l.reached (omega (arith, lt)) in
    let at_level = level_there p.trail level w.0 w.2 in
    let at_present = level_there p.trail (present_level p.trail) u l.present in
    let below = l.below in
    let apart : u ≢ w.0 = λ e.
    (let both : Some (present_level p.trail) ≡ Some level = sym at_present ∙ ap (λ (k : ℤ). level_of p.trail (variable k)) e ∙ at_level in
    let same : present_level p.trail ≡ level = cc both in omega (arith, same, below)) in
    two_unset (assignment_along up) c u w.0 l.there w.1 apart
    (unset_by_entry up (variable u) (learned_unset p c u level low h l (omega (arith, lt, below))))
    (unset_by_entry up (variable w.0) (unset_up_to p low level (variable w.0) h at_level lt))

-- NO COMPLEMENTARY PAIR

-- a false clause has none
pub false_apart_all : (p : Propagation) (c : List ℤ) → IsPropagation p → are_false_in p.trail c ≡ true → not (is_tautology c) ≡ true
false_apart_all p c h f = rw (none_of c (λ l m. m)) refl
  where
    one_sign : (l : ℤ) → contains c l ≡ true → contains c (complement l) ≡ false
    one_sign l m = false_from_ne_true (contains c (complement l)) (λ m'.
        (let false_l = passes_each (false_in p.trail) c l f m in
        let false_c = passes_each (false_in p.trail) c (complement l) f m' in
        never_both (true_in p.trail l) (subst (λ (k : ℤ). true_in p.trail k ≡ true) (complement_twice l) false_c)
        (no_sign_twice p.vars p.trail l (path_of p h) (false_low p l h false_l) false_l)))

    none_of : (d : List ℤ) → ((l : ℤ) → contains d l ≡ true → contains c l ≡ true) → list_any (λ l. contains c (complement l)) d ≡ false
    none_of [] inside = refl
    none_of (l ∷ d) inside =
        rw (one_sign l (inside l (or_left (int_eq l l) (contains d l) (int_self l))))
        (none_of d (λ k m. inside k (or_right (int_eq k l) (contains d k) m)))

-- a learned clause in which no literal stands twice may be held
pub may_hold_learned : (p : Propagation) (c : List ℤ) (u : ℤ) (level : ℕ) → IsPropagation p → IsLearnedFor p.trail c u level → is_distinct c ≡ true
    → may_be_held p.vars c ≡ true
may_hold_learned p c u level h l distinct =
    let lits = all_literals (is_literal p.vars) c (λ k m. false_literal p k h (passes_each (false_in p.trail) c k l.falsified m)) in
    rw (filled c u l.there, lits, distinct, false_apart_all p c h l.falsified) refl

-- a clause with the same literals is learned with it
pub learned_same : (trail : List Entry) (c d : List ℤ) (u : ℤ) (level : ℕ) → is_same_set c d ≡ true → IsLearnedFor trail c u level → IsLearnedFor trail d u level
learned_same trail c d u level same l = record {
  falsified = all_literals (false_in trail) d (λ k m. passes_each (false_in trail) c k l.falsified (same_of c d k same m));
  there = of_same c d u same l.there;
  present = l.present;
  below = l.below;
  others = λ k m apart. l.others k (same_of c d k same m) apart;
  reached = λ lt. (let w = l.reached lt in (w.0, of_same c d w.0 same w.1, w.2));
}
