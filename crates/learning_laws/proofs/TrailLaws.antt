-- What every trail of propagation keeps.
use Rattle.std.proofs.Common.{suc, ◌≡◌, ◌∙◌, ℕ, ◌+◌, ◌<◌, ◌≤◌, ◌==◌, ◌++◌, ◌∷◌, [], Bool, true, false, cond, not, ◌||◌, List, ℤ, Option, Some, None, is_some, option_map, length, length-append, nat_le, nat_lt, refl, sym, ap, subst, arith, append_assoc}
use Rattle.std.specs.Option.{option_map_or}
use Rattle.std.specs.List.{list_all}
use Rattle.std.proofs.lemmas.Bool.{eqb-true, eq-eqb, leb-false, lt-ltb, false_from_ne_true, and_from}
use Rattle.std.proofs.lemmas.List.{append-nil}
use Rattle.std.proofs.lemmas.List.Folds.{list_all-append}
use Rattle.lk_model.specs.Lists.{with_earlier}
use Rattle.lk_model.specs.Formulas.Literal.{variable, complement, contains, mentions, is_literal, is_distinct, is_positive}
use Rattle.lk_model.specs.Formulas.Assignment.{makes_true}
use Rattle.lk_model.proofs.Booleans.{and_true, same_tests}
use Rattle.lk_model.proofs.ListTests.{passes_each}
use Rattle.lk_model.proofs.Founds.{all_literals}
use Rattle.lk_model.proofs.Ranks.{literal_bounds}
use Rattle.watch_prop.specs.declared.entry.Entry.{Entry}
use Rattle.watch_prop.specs.Trail.{literals_of, false_in, entry_of, present_level, up_to_level, may_come, is_path}
use Rattle.watch_prop.specs.Propagation.{Propagation, IsPropagation, GoesOn, assigned, with_assigned}
use Rattle.lk_model.specs.Formulas.Units.{is_false}
use Rattle.watch_prop.proofs.Paths.{comes, last_level, level_after, level_not_below, back_there}
use Rattle.watch_prop.proofs.Truths.{ComeAfter, none_later, no_sign_twice}
use Rattle.lk_model.proofs.Literals.{variable_complement, complement_twice}
use Rattle.watch_prop.proofs.Along.{makes_true_along, false_along, literal_on_path}
use Rattle.watch_prop.proofs.Levels.{prefix_of, level_twice, level_more}
use Rattle.watch_prop.proofs.Trails.{same_level}
use Rattle.learning_laws.specs.Learned.{are_false_in}
use Rattle.learning_laws.specs.TrailLaw.{IsUpTo, IsOpened, TrailLaw}
use Rattle.learning_laws.proofs.Levels.{path_of, level_up_to}
use Rattle.learning_laws.proofs.QuietLaws.{stays_below}
use Rattle.learning_laws.proofs.Splits.{first_part, comes_there, entry_found, entry_within, reason_of_entry}

-- levels never fall
levels_rise : (p : Propagation) (before : List Entry) (d : Entry) (between : List Entry) (e : Entry) (after : List Entry) → IsPropagation p
    → p.trail ≡ before ++ d ∷ between ++ e ∷ after → d.level ≤ e.level
levels_rise p before d between e after h split =
    let low = entry_within (record p { trail = before ++ d ∷ between }) before d between (first_part p (before ++ d ∷ between) (e ∷ after) h split) refl in
    let high = level_not_below (present_level (before ++ d ∷ between)) e (comes_there p (before ++ d ∷ between) e after h split).level in
    omega (arith, low, high)

-- the trail up to a level is a front of it
up_to_first : (p : Propagation) (level : ℕ) → IsPropagation p → IsUpTo p.trail level
up_to_first p level h =
    let pre = prefix_of p.vars p.clauses level (length p.trail) p.trail refl h.trail in
    record { rest = pre.rest; whole = pre.whole }

-- LITERALS ONCE

-- no later literal is an earlier one
literals_once : (vars : ℕ) (earlier rest : List Entry) → ComeAfter vars earlier rest → is_distinct (literals_of rest) ≡ true
literals_once vars earlier [] h = refl
literals_once vars earlier (e ∷ rest) h =
    let both = and_true (may_come vars earlier e) _ h in
    rw (none_later vars earlier rest e e.lit both.1 (eq-eqb (variable e.lit) (variable e.lit) refl)) (literals_once vars (earlier ++ e ∷ []) rest both.1)

-- of a whole path
path_once : (vars : ℕ) (trail : List Entry) → is_path vars trail ≡ true → is_distinct (literals_of trail) ≡ true
unfolding is_path
path_once vars trail h = literals_once vars [] trail h

-- a true literal's complement is not true
complement_absent : (p : Propagation) (l : ℤ) → IsPropagation p → contains (literals_of p.trail) l ≡ true → not (contains (literals_of p.trail) (complement l)) ≡ true
complement_absent p l h there =
    let bounds = literal_bounds p.vars l (literal_on_path p.vars p.trail l (path_of p h) there) in
    let low : 0 < variable (complement l) = omega (arith, bounds.0, variable_complement l) in
    let false_there : false_in p.trail (complement l) ≡ true = subst (λ (k : ℤ). contains (literals_of p.trail) k ≡ true) (sym (complement_twice l)) there in
    ap not (no_sign_twice p.vars p.trail (complement l) (path_of p h) low false_there)

-- THE FIRST LITERAL OF A LEVEL

-- with what stands before each entry, in two pieces
earlier_append : (earlier xs ys : List Entry) → with_earlier earlier (xs ++ ys) ≡ with_earlier earlier xs ++ with_earlier (earlier ++ xs) ys
earlier_append earlier [] ys = ap (λ (e : List Entry). with_earlier e ys) (sym (append-nil earlier))
earlier_append earlier (x ∷ xs) ys =
    ap (λ (l : List (List Entry × Entry)). (earlier, x) ∷ l) (earlier_append (earlier ++ x ∷ []) xs ys
    ∙ ap (λ (e : List Entry). with_earlier (earlier ++ x ∷ []) xs ++ with_earlier e ys) (append_assoc earlier (x ∷ []) xs))

-- the second piece of a path comes after the first
second_part : (vars : ℕ) (before after : List Entry) → is_path vars (before ++ after) ≡ true → ComeAfter vars before after
unfolding is_path
second_part vars before after h =
    let t = λ (q : List Entry × Entry). may_come vars q.0 q.1 in
    let both : list_all t (with_earlier [] before ++ with_earlier before after) ≡ true =
    subst (λ (l : List (List Entry × Entry)). list_all t l ≡ true) (earlier_append [] before after) h in
    (and_true (list_all t (with_earlier [] before)) (list_all t (with_earlier before after))
    (sym (list_all-append t (with_earlier [] before) (with_earlier before after)) ∙ both)).1

-- what is assigned later is of a higher level
later_higher : (vars low : ℕ) (earlier rest : List Entry) → ComeAfter vars earlier rest → low ≤ present_level earlier
    → list_all (λ (d : Entry). is_some d.reason || nat_lt low d.level) rest ≡ true
later_higher vars low earlier [] h le = refl
later_higher vars low earlier (e ∷ rest) h le =
    let both = and_true (may_come vars earlier e) _ h in
    let level = (comes vars earlier e both.0).level in
    let up = level_not_below (present_level earlier) e level in
    let last = last_level earlier e in
    and_from (is_some e.reason || nat_lt low e.level) _ (at_reason e.reason level) (later_higher vars low (earlier ++ e ∷ []) rest both.1 (omega (arith, up, last, le)))
  where
    at_reason : (r : Option ℕ) → option_map_or (λ _. e.level == present_level earlier) r (e.level == present_level earlier + 1) ≡ true
        → (is_some r || nat_lt low e.level) ≡ true
    at_reason None f = let same = eqb-true e.level (present_level earlier + 1) f in lt-ltb low e.level (omega (arith, same, le))
    at_reason (Some k) f = refl

-- what stands up to a level, in two pieces
up_to_append : (level : ℕ) (xs ys : List Entry) → up_to_level level (xs ++ ys) ≡ up_to_level level xs ++ up_to_level level ys
up_to_append level [] ys = refl
up_to_append level (x ∷ xs) ys = at_test (nat_le x.level level) (up_to_append level xs ys)
  where
    at_test : (b : Bool) → up_to_level level (xs ++ ys) ≡ up_to_level level xs ++ up_to_level level ys
        → cond b (x ∷ up_to_level level (xs ++ ys)) (up_to_level level (xs ++ ys)) ≡ cond b (x ∷ up_to_level level xs) (up_to_level level xs) ++ up_to_level level ys
    at_test true e = ap (λ (t : List Entry). x ∷ t) e
    at_test false e = e

-- the entry after the trail up to a level is above it
entry_above : (level : ℕ) (trail : List Entry) (e : Entry) (after : List Entry) → trail ≡ up_to_level level trail ++ e ∷ after → nat_le e.level level ≡ false
entry_above level trail e after split = false_from_ne_true (nat_le e.level level) (λ y.
    (let up = up_to_level level trail in
    let whole : up ≡ up ++ up_to_level level (e ∷ after) =
    ap (up_to_level level) split ∙ up_to_append level up (e ∷ after) ∙ ap (λ (t : List Entry). t ++ up_to_level level (e ∷ after)) (level_twice level level trail (omega arith)) in
    let more : up_to_level level (e ∷ after) ≡ e ∷ up_to_level level after = ap (λ (b : Bool). cond b (e ∷ up_to_level level after) (up_to_level level after)) y in
    let long : length up ≡ length (up ++ up_to_level level (e ∷ after)) = ap length whole in
    let parts = length-append up (up_to_level level (e ∷ after)) in
    let count : length (up_to_level level (e ∷ after)) ≡ suc (length (up_to_level level after)) = ap length more in
    omega (arith, long, parts, count)))

-- the next level begins with its only assigned literal
level_opened : (p : Propagation) (level : ℕ) → IsPropagation p → level < present_level p.trail → IsOpened p.trail level
level_opened p level h lt = at_rest (up_to_first p level h).rest (up_to_first p level h).whole
  where
    up : List Entry
    up = up_to_level level p.trail

    present : present_level up ≡ level
    present = level_up_to p level h (omega (arith, lt))

    at_reason : (e : Entry) → level < e.level → (r : Option ℕ) → option_map_or (λ _. e.level == present_level up) r (e.level == present_level up + 1) ≡ true → r ≡ None
    at_reason e above None f = refl
    at_reason e above (Some k) f = let same = eqb-true e.level (present_level up) f in absurd (omega (arith, same, present, above))

    at_rest : (rest : List Entry) → p.trail ≡ up ++ rest → IsOpened p.trail level
    at_rest [] split = let same : present_level p.trail ≡ present_level up = ap present_level (split ∙ append-nil up) in absurd (omega (arith, same, present, lt))
    at_rest (e ∷ after) split =
        let above = leb-false e.level level (entry_above level p.trail e after split) in
        let c = comes_there p up e after h split in
        let most = level_after (present_level up) e c.level in
        let is : e.level ≡ level + 1 = omega (arith, above, most, present) in
        let last = last_level up e in
        let split' : p.trail ≡ (up ++ e ∷ []) ++ after = split ∙ sym (append_assoc up (e ∷ []) after) in
        record {
          entry = e;
          after = after;
          whole = split;
          level_is = is;
          assigned = at_reason e (omega (arith, above)) e.reason c.level;
          only = later_higher p.vars (level + 1) (up ++ e ∷ []) after
              (second_part p.vars (up ++ e ∷ []) after (subst (λ (t : List Entry). is_path p.vars t ≡ true) split' (path_of p h)))
              (omega (arith, last, is));
        }

-- TRUTH

-- a clause is false by the assignment where it is by the trail
false_both : (p : Propagation) (c : List ℤ) → IsPropagation p → list_all (is_literal p.vars) c ≡ true → is_false (assigned p) c ≡ are_false_in p.trail c
false_both p c h lits = same_tests (is_false (assigned p) c) (are_false_in p.trail c)
    (λ f. all_literals (false_in p.trail) c (λ l m.
    (let bounds = literal_bounds p.vars l (passes_each (is_literal p.vars) c l lits m) in
    let low : 0 < variable (complement l) = omega (arith, bounds.0, variable_complement l) in
    sym (makes_true_along p.vars p.trail (complement l) (path_of p h) low) ∙ passes_each (λ l. makes_true (assigned p) (complement l)) c l f m)))
    (false_along p.vars p.trail c (path_of p h) lits)

-- a variable is set where a literal of it stands
set_mentioned : (trail : List Entry) (v : ℕ) → is_some (option_map (λ (e : Entry). is_positive e.lit) (entry_of trail v)) ≡ mentions (literals_of trail) v
set_mentioned [] v = refl
set_mentioned (e ∷ trail) v = at_test (variable e.lit == v) (set_mentioned trail v)
  where
    at_test : (b : Bool) → is_some (option_map (λ (e : Entry). is_positive e.lit) (entry_of trail v)) ≡ mentions (literals_of trail) v
        → is_some (option_map (λ (e : Entry). is_positive e.lit) (cond b (Some e) (entry_of trail v))) ≡ (b || mentions (literals_of trail) v)
    at_test true h = refl
    at_test false h = h

-- LEVELS THAT OPEN

-- a literal that is assigned leaves what stands up to the levels before
below_assigned : (p : Propagation) (l : ℤ) (level : ℕ) → level ≤ present_level p.trail → up_to_level level (with_assigned p l).trail ≡ up_to_level level p.trail
below_assigned p l level le = level_more level p.trail (record { lit = l; level = present_level p.trail + 1; reason = None }) (omega (arith, le))

-- what is forced is of the present level
level_forced : (p q : Propagation) → GoesOn p q → present_level q.trail ≡ present_level p.trail
level_forced p q g = ap present_level g.trail ∙ same_level p.trail g.forced (present_level p.trail) refl g.levels

-- and leaves what stands up to the levels below
below_forced : (p q : Propagation) (level : ℕ) → GoesOn p q → level < present_level p.trail → up_to_level level q.trail ≡ up_to_level level p.trail
below_forced p q level g lt = ap (up_to_level level) g.trail ∙ stays_below level (present_level p.trail) p.trail g.forced lt g.levels

-- all of it
pub trail_law : TrailLaw
trail_law = record {
  first_part = first_part;
  most = entry_within;
  rise = levels_rise;
  up_to = up_to_first;
  reached = level_up_to;
  all = λ p level h le. back_there p.vars p.trail level (path_of p h) le;
  twice = level_twice;
  once = λ p h. path_once p.vars p.trail (path_of p h);
  one_sign = complement_absent;
  entry = entry_found;
  reason = reason_of_entry;
  opened = level_opened;
  literals = λ p l h there. literal_on_path p.vars p.trail l (path_of p h) there;
  truth = λ p l h low. makes_true_along p.vars p.trail l (path_of p h) low;
  falsity = false_both;
  unset = λ p v. set_mentioned p.trail v;
  assigned_level = λ p l. last_level p.trail (record { lit = l; level = present_level p.trail + 1; reason = None });
  assigned_below = below_assigned;
  forced_level = level_forced;
  forced_below = below_forced;
}
