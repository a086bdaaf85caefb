-- A trail place by place, and the variables of a false clause.
use Rattle.std.proofs.Common.{pos, ◌≡◌, ◌≢◌, ◌∙◌, ℕ, suc, ◌+◌, ◌<◌, ◌≤◌, ◌==◌, ◌++◌, ◌∷◌, [], Bool, true, false, not, ◌&&◌, ◌||◌, List, ℤ, Some, None, option_map, option_and_then, length, map, take, drop, get_or, refl, sym, ap, subst, arith, inl, inr, append_assoc}
use Rattle.std.specs.List.{list_all, range_with_len}
use Rattle.std.specs.Ordering.{int_eq}
use Rattle.std.proofs.lemmas.Bool.{eqb-true, eq-eqb, false_from_ne_true, and_from}
use Rattle.std.proofs.lemmas.List.{take_more, take-append-drop, get_or-map}
use Rattle.std.proofs.lemmas.List.Folds.{list_any-append}
use Rattle.std.proofs.lemmas.List.FromFn.{length-range_with_len as length_range}
use Rattle.lk_model.specs.Lists.{among}
use Rattle.lk_model.specs.Formulas.Literal.{variable, complement, contains, mentions}
use Rattle.lk_model.specs.Chains.Chain.{without}
use Rattle.lk_model.proofs.Booleans.{and_true, or_true, or_left, or_right, same_tests}
use Rattle.lk_model.proofs.ListTests.{passes_each, passes_one}
use Rattle.lk_model.proofs.Ranks.{literal_bounds}
use Rattle.lk_model.proofs.Counting.{Differ, none, more, TakesInto, no_more, among-range}
use Rattle.kernel_laws.proofs.Clauses.{mentions_of, in_without, from_filtered}
use Rattle.watch_prop.specs.declared.entry.Entry.{Entry}
use Rattle.watch_prop.specs.Trail.{literals_of, true_in, false_in, entry_of, clause_numbered, may_come, forces, is_path}
use Rattle.watch_prop.specs.Propagation.{Propagation, IsPropagation}
use Rattle.watch_prop.proofs.Truths.{ComeAfter, none_later, same_true, no_sign_twice}
use Rattle.lk_model.proofs.Literals.{same_int, variable_complement, complement_twice, one_variable}
use Rattle.watch_prop.proofs.Along.{literal_on_path}
use Rattle.learning_laws.specs.Learned.{are_false_in}
use Rattle.learning_laws.specs.PlaceLaw.{IsPlace}
use Rattle.learning_laws.proofs.Levels.{path_of, false_low}
use Rattle.learning_laws.proofs.Splits.{first_part, comes_there, entry_found, false_before, reason_of_entry, entry_of_false}
use Rattle.lk_model.proofs.Variables.{literal_passing}
use Rattle.learning_laws.proofs.Tests.{never_both, not_both, and_right}

-- PLACES

-- what follows a place
drop_next : (trail : List Entry) (i : ℕ) (d : Entry) → i < length trail → trail ≡ take i trail ++ get_or trail i d ∷ drop (i + 1) trail
drop_next trail i d lt =
    sym (take-append-drop (i + 1) trail) ∙ ap (λ (t : List Entry). t ++ drop (i + 1) trail) (take_more trail i d lt)
    ∙ append_assoc (take i trail) (get_or trail i d ∷ []) (drop (i + 1) trail)

-- each place has its entry
pub place_of : (p : Propagation) (i : ℕ) → IsPropagation p → i < length p.trail → IsPlace p.trail i
place_of p i h lt = record {
  entry = e;
  whole = whole;
  next = take_more p.trail i default lt;
  lit = λ d. get_or-map (λ (x : Entry). x.lit) p.trail i default d lt;
  level = ap (option_map (λ (x : Entry). x.level)) found;
  reason = ap (option_and_then (λ (x : Entry). x.reason)) found;
}
  where
    default : Entry
    default = record { lit = pos 0; level = 0; reason = None }

    e : Entry
    e = get_or p.trail i default

    whole : p.trail ≡ take i p.trail ++ e ∷ drop (i + 1) p.trail
    whole = drop_next p.trail i default lt

    found : entry_of p.trail (variable e.lit) ≡ Some e
    found = entry_found p (take i p.trail) e (drop (i + 1) p.trail) h whole

-- HOW MANY ENTRIES

-- the variables of a trail
abbrev variables_along : List Entry → List ℕ
variables_along trail = map (λ (e : Entry). variable e.lit) trail

-- a variable that stands there has a literal there
among_literal : (trail : List Entry) (v : ℕ) → among (variables_along trail) v ≡ true → (l : ℤ) × (contains (literals_of trail) l ≡ true) × (variable l ≡ v)
among_literal [] v e = absurd (let z : ⊥ = cc in z)
among_literal (x ∷ trail) v e = at_test (variable x.lit == v) refl e (among_literal trail v)
  where
    at_test : (b : Bool) → (variable x.lit == v) ≡ b → (b || among (variables_along trail) v) ≡ true
        → (among (variables_along trail) v ≡ true → (l : ℤ) × (contains (literals_of trail) l ≡ true) × (variable l ≡ v))
        → (l : ℤ) × (contains (literals_of (x ∷ trail)) l ≡ true) × (variable l ≡ v)
    at_test true f g rest = (x.lit, or_left (int_eq x.lit x.lit) (contains (literals_of trail) x.lit) (same_true x.lit x.lit refl), eqb-true (variable x.lit) v f)
    at_test false f g rest = let w = rest g in (w.0, or_right (int_eq w.0 x.lit) (contains (literals_of trail) w.0) w.1, w.2)

-- no variable stands twice
variables_differ : (vars : ℕ) (earlier rest : List Entry) → ComeAfter vars earlier rest → Differ (variables_along rest)
variables_differ vars earlier [] h = none
variables_differ vars earlier (e ∷ rest) h =
    let both = and_true (may_come vars earlier e) _ h in
    more (variable e.lit) (variables_along rest)
    (false_from_ne_true (among (variables_along rest) (variable e.lit)) (λ m.
    (let w = among_literal rest (variable e.lit) m in
    never_both (contains (literals_of rest) w.0) w.1
    (none_later vars earlier rest e w.0 both.1 (eq-eqb (variable e.lit) (variable w.0) (sym w.2))))))
    (variables_differ vars (earlier ++ e ∷ []) rest both.1)

-- of a whole path
path_differs : (vars : ℕ) (trail : List Entry) → is_path vars trail ≡ true → Differ (variables_along trail)
unfolding is_path
path_differs vars trail h = variables_differ vars [] trail h

-- a list of variables is as long as the trail
length_variables : (trail : List Entry) → length (variables_along trail) ≡ length trail
length_variables [] = refl
length_variables (e ∷ trail) = ap suc (length_variables trail)

-- there are at most as many entries as variables
pub few_entries : (p : Propagation) → IsPropagation p → length p.trail ≤ p.vars
few_entries p h =
    let taken : TakesInto (λ v. v) (variables_along p.trail) (range_with_len 1 p.vars) = record {
      into = λ v m.
          let w = among_literal p.trail v m in
          let bounds = literal_bounds p.vars w.0 (literal_on_path p.vars p.trail w.0 (path_of p h) w.1) in
          let same = w.2 in
          among-range 1 p.vars v (omega (arith, bounds.0, same)) (omega (arith, bounds.1, same));
      one = λ x z a b e. e;
    } in
    let le = no_more (λ v. v) (variables_along p.trail) (range_with_len 1 p.vars) (path_differs p.vars p.trail (path_of p h)) taken in
    let long = length_variables p.trail in
    let range = length_range 1 p.vars in
    omega (arith, le, long, range)

-- VARIABLES OF A FALSE CLAUSE

-- a false clause contains the literal of a variable that is false
by_variable : (p : Propagation) (c : List ℤ) (l : ℤ) → IsPropagation p → are_false_in p.trail c ≡ true → mentions c (variable l) ≡ true → false_in p.trail l ≡ true
    → contains c l ≡ true
by_variable p c l h f m false_l =
    let w = literal_passing (λ k. variable k == variable l) c m in
    elim (one_variable w.0 l (eqb-true (variable w.0) (variable l) w.2)) [
      | inl same ↦ subst (λ (k : ℤ). contains c k ≡ true) same w.1
      | inr other ↦
          let false_w = passes_each (false_in p.trail) c w.0 f w.1 in
          let true_l : true_in p.trail l ≡ true = subst (λ (k : ℤ). true_in p.trail k ≡ true) (ap complement other ∙ complement_twice l) false_w in
          absurd (never_both (true_in p.trail l) true_l (no_sign_twice p.vars p.trail l (path_of p h) (false_low p l h false_l) false_l))
    ]

-- so it is known by its variables
pub known_by_variables : (p : Propagation) (c : List ℤ) (l : ℤ) → IsPropagation p → are_false_in p.trail c ≡ true
    → contains c l ≡ (mentions c (variable l) && false_in p.trail l)
known_by_variables p c l h f = same_tests (contains c l) (mentions c (variable l) && false_in p.trail l)
    (λ m. and_from (mentions c (variable l)) (false_in p.trail l) (mentions_of c l m) (passes_each (false_in p.trail) c l f m))
    (λ e. let both = and_true (mentions c (variable l)) (false_in p.trail l) e in by_variable p c l h f both.0 both.1)

-- at an entry, by the entry's variable
pub holds_complement : (p : Propagation) (before : List Entry) (e : Entry) (after : List Entry) (c : List ℤ) → IsPropagation p → p.trail ≡ before ++ e ∷ after
    → are_false_in (before ++ e ∷ []) c ≡ true → contains c (complement e.lit) ≡ mentions c (variable e.lit)
holds_complement p before e after c h split f =
    let split' : p.trail ≡ (before ++ e ∷ []) ++ after = split ∙ sym (append_assoc before (e ∷ []) after) in
    let q = first_part p (before ++ e ∷ []) after h split' in
    let there : false_in (before ++ e ∷ []) (complement e.lit) ≡ true =
    ap (λ (k : ℤ). true_in (before ++ e ∷ []) k) (complement_twice e.lit) ∙ last_there before e in
    known_by_variables (record p { trail = before ++ e ∷ [] }) c (complement e.lit) q f
    ∙ ap (λ (b : Bool). mentions c (variable (complement e.lit)) && b) there
    ∙ and_right (mentions c (variable (complement e.lit)))
    ∙ ap (mentions c) (variable_complement e.lit)
  where
    last_there : (es : List Entry) (x : Entry) → true_in (es ++ x ∷ []) x.lit ≡ true
    last_there [] x = or_left (int_eq x.lit x.lit) false (same_true x.lit x.lit refl)
    last_there (d ∷ es) x = or_right (int_eq x.lit d.lit) (true_in (es ++ x ∷ []) x.lit) (last_there es x)

-- the variables of a clause without a literal that is the only one of its variable
mentions_without : (c : List ℤ) (m : ℤ) (v : ℕ) → ((k : ℤ) → contains c k ≡ true → k ≢ m → variable k ≢ variable m)
    → mentions (without c m) v ≡ (mentions c v && not (v == variable m))
mentions_without c m v apart = same_tests (mentions (without c m) v) (mentions c v && not (v == variable m))
    (λ e.
    let w = literal_passing (λ k. variable k == v) (without c m) e in
    let both = from_filtered (λ k. not (int_eq k m)) c w.0 w.1 in
    let on = eqb-true (variable w.0) v w.2 in
    let differs : variable w.0 ≢ variable m = apart w.0 both.1 (λ same. not_both (int_eq w.0 m) both.0 (same_true w.0 m same)) in
    and_from (mentions c v) (not (v == variable m)) (passes_one (λ k. variable k == v) c w.0 both.1 w.2)
    (ap not (false_from_ne_true (v == variable m) (λ t. differs (on ∙ eqb-true v (variable m) t)))))
    (λ e.
    let both = and_true (mentions c v) (not (v == variable m)) e in
    let w = literal_passing (λ k. variable k == v) c both.0 in
    let on = eqb-true (variable w.0) v w.2 in
    let other : int_eq w.0 m ≡ false = false_from_ne_true (int_eq w.0 m) (λ t.
    not_both (v == variable m) both.1 (eq-eqb v (variable m) (sym on ∙ ap variable (same_int w.0 m t)))) in
    passes_one (λ k. variable k == v) (without c m) w.0 (in_without c m w.0 w.1 other) w.2)

-- a literal that is false before an entry is not on the entry's variable
pub other_variable : (p : Propagation) (before : List Entry) (e : Entry) (after : List Entry) (k : ℤ) → IsPropagation p → p.trail ≡ before ++ e ∷ after
    → false_in before k ≡ true → variable k ≢ variable e.lit
other_variable p before e after k h split f same =
    let x = entry_of_false (record p { trail = before }) k (first_part p before (e ∷ after) h split) f in
    let absent = (comes_there p before e after h split).absent in
    let both : Some x.entry ≡ None = sym x.is ∙ ap (entry_of before) same ∙ absent in
    let z : ⊥ = cc in z

-- the resolvent has the variables of both clauses but the entry's
pub resolvent_mentions : (p : Propagation) (before : List Entry) (e : Entry) (after : List Entry) (reason : ℕ) (c d : List ℤ) (v : ℕ) → IsPropagation p
    → p.trail ≡ before ++ e ∷ after → e.reason ≡ Some reason → clause_numbered p.clauses reason ≡ Some d → are_false_in (before ++ e ∷ []) c ≡ true
    → mentions (without c (complement e.lit) ++ without d e.lit) v ≡ ((mentions c v || mentions d v) && not (v == variable e.lit))
resolvent_mentions p before e after reason c d v h split some named f =
    let r = reason_of_entry p before e after reason h split some in
    let both : Some r.clause ≡ Some d = sym r.named ∙ named in
    let same : r.clause ≡ d = cc both in
    let force : forces d before e.lit ≡ true = subst (λ (x : List ℤ). forces x before e.lit ≡ true) same r.force in
    let others = (and_true (contains d e.lit) (list_all (λ k. int_eq k e.lit || contains (literals_of before) (complement k)) d) force).1 in
    let first = mentions_without c (complement e.lit) v (λ k m apart s.
    other_variable p before e after k h split (false_before before e k (passes_each (false_in (before ++ e ∷ [])) c k f m) apart) (s ∙ variable_complement e.lit)) in
    let second = mentions_without d e.lit v (λ k m apart s.
    other_variable p before e after k h split (by_test k apart (passes_each (λ k. int_eq k e.lit || contains (literals_of before) (complement k)) d k others m)) s) in
    list_any-append (λ k. variable k == v) (without c (complement e.lit)) (without d e.lit)
    ∙ ap (λ (b : Bool). b || mentions (without d e.lit) v) (first ∙ ap (λ (n : ℕ). mentions c v && not (v == n)) (variable_complement e.lit))
    ∙ ap (λ (b : Bool). mentions c v && not (v == variable e.lit) || b) second
    ∙ both_tests (mentions c v) (mentions d v) (not (v == variable e.lit))
  where
    by_test : (k : ℤ) → k ≢ e.lit → (int_eq k e.lit || contains (literals_of before) (complement k)) ≡ true → false_in before k ≡ true
    by_test k apart t = elim (or_true (int_eq k e.lit) (contains (literals_of before) (complement k)) t) [
      | inl y ↦ absurd (apart (same_int k e.lit y))
      | inr y ↦ y
    ]

    both_tests : (a b x : Bool) → (a && x || b && x) ≡ ((a || b) && x)
    both_tests true true true = refl
    both_tests true true false = refl
    both_tests true false true = refl
    both_tests true false false = refl
    both_tests false b x = refl
