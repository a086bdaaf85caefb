-- How many literals of a level a clause contains, counted along the trail.
use Rattle.std.proofs.Common.{nat_le, None, ◌≡◌, ◌≢◌, ◌∙◌, ℕ, ◌+◌, ◌<◌, ◌==◌, ◌++◌, ◌∷◌, [], Bool, true, false, cond, not, ◌&&◌, ◌||◌, List, ℤ, Some, option_map, length, filter, refl, sym, ap, subst, arith, inl, inr, append_assoc}
use Rattle.std.specs.Prelude.{nat_lt}
use Rattle.std.specs.List.{list_all}
use Rattle.std.specs.Option.{option_map_or}
use Rattle.std.specs.Ordering.{int_eq}
use Rattle.std.proofs.lemmas.Bool.{leb-true, ltb-true, ltb-false, cases_Bool, eqb-true, eq-eqb, false_from_ne_true, and_from}
use Rattle.lk_model.specs.Formulas.Literal.{variable, complement, contains, mentions}
use Rattle.lk_model.proofs.Booleans.{and_true, or_left, or_right}
use Rattle.lk_model.proofs.ListTests.{passes_each}
use Rattle.watch_prop.specs.declared.entry.Entry.{Entry}
use Rattle.watch_prop.specs.Trail.{literals_of, false_in, entry_of, present_level, may_come, is_path}
use Rattle.watch_prop.specs.Propagation.{Propagation, IsPropagation}
use Rattle.watch_prop.proofs.Paths.{path_levels, last_level}
use Rattle.kernel_laws.proofs.Clauses.{mentions_of}
use Rattle.learning_laws.proofs.Tests.{test_apart, never_both, and_right}
use Rattle.watch_prop.proofs.Truths.{ComeAfter, none_later, same_true}
use Rattle.learning_laws.specs.Learned.{stands_at, are_false_in}
use Rattle.learning_laws.specs.PlaceLaw.{count_at, PlaceLaw}
use Rattle.learning_laws.proofs.Levels.{path_of, level_there}
use Rattle.learning_laws.proofs.Splits.{first_part, assigned_above, entry_within, false_before, entry_of_false, found_first}
use Rattle.learning_laws.proofs.Backwards.{false_more}
use Rattle.lk_model.proofs.Variables.{literal_passing}
use Rattle.learning_laws.proofs.Places.{place_of, few_entries, known_by_variables, holds_complement, resolvent_mentions, other_variable}

-- 1 where the test passes
abbrev pub one_if : Bool → ℕ
one_if b = cond b 1 0

-- the entry is of the level and its variable stands in the clause
abbrev pub counts : ℕ → List ℤ → Entry → Bool
counts level c e = e.level == level && mentions c (variable e.lit)

-- one entry more at the front
pub count_first : (e : Entry) (trail : List Entry) (level : ℕ) (c : List ℤ) → count_at (e ∷ trail) level c ≡ one_if (counts level c e) + count_at trail level c
count_first e trail level c = at_test (counts level c e)
  where
    at_test : (b : Bool) → length (cond b (e ∷ filter (counts level c) trail) (filter (counts level c) trail)) ≡ one_if b + length (filter (counts level c) trail)
    at_test true = omega arith
    at_test false = omega arith

-- nothing stands in the empty clause
count_none : (trail : List Entry) (level : ℕ) → count_at trail level [] ≡ 0
count_none [] level = refl
count_none (e ∷ trail) level =
    let rest = count_none trail level in
    let here : one_if (counts level [] e) ≡ 0 = at_test (e.level == level) in
    let first = count_first e trail level [] in
    omega (arith, rest, here, first)
  where
    at_test : (b : Bool) → one_if (b && false) ≡ 0
    at_test true = refl
    at_test false = refl

-- one entry more at the end
pub count_entry : (before : List Entry) (e : Entry) (level : ℕ) (c : List ℤ) → count_at (before ++ e ∷ []) level c ≡ count_at before level c + one_if (counts level c e)
count_entry [] e level c = let first = count_first e [] level c in omega (arith, first)
count_entry (d ∷ before) e level c =
    let rest = count_entry before e level c in
    let first = count_first d (before ++ e ∷ []) level c in
    let first' = count_first d before level c in
    omega (arith, rest, first, first')

-- only the variables of the entries matter
count_same : (trail : List Entry) (level : ℕ) (c d : List ℤ) → ((l : ℤ) → contains (literals_of trail) l ≡ true → mentions c (variable l) ≡ mentions d (variable l))
    → count_at trail level c ≡ count_at trail level d
count_same [] level c d h = refl
count_same (e ∷ trail) level c d h =
    let rest = count_same trail level c d (λ l m. h l (or_right (int_eq l e.lit) (contains (literals_of trail) l) m)) in
    let here : one_if (counts level c e) ≡ one_if (counts level d e) =
    ap (λ (b : Bool). one_if (e.level == level && b)) (h e.lit (or_left (int_eq e.lit e.lit) (contains (literals_of trail) e.lit) (same_true e.lit e.lit refl))) in
    let first = count_first e trail level c in
    let first' = count_first e trail level d in
    omega (arith, rest, here, first, first')

-- a literal whose variable does not stand on the trail makes no difference
count_absent : (trail : List Entry) (level : ℕ) (c : List ℤ) (l : ℤ)
    → ((k : ℤ) → contains (literals_of trail) k ≡ true → (variable l == variable k) ≡ false) → count_at trail level (l ∷ c) ≡ count_at trail level c
count_absent trail level c l h = count_same trail level (l ∷ c) c (λ k m. ap (λ (b : Bool). b || mentions c (variable k)) (h k m))

-- one literal more counts where its variable is new and of the level
count_literal : (vars : ℕ) (earlier trail : List Entry) (level : ℕ) (c : List ℤ) (l : ℤ) → ComeAfter vars earlier trail
    → count_at trail level (l ∷ c) ≡ count_at trail level c + one_if (stands_at trail level l && not (mentions c (variable l)))
count_literal vars earlier [] level c l h = refl
count_literal vars earlier (e ∷ trail) level c l h =
    let both = and_true (may_come vars earlier e) _ h in
    let first = count_first e trail level (l ∷ c) in
    let first' = count_first e trail level c in
    elim (cases_Bool (variable e.lit == variable l)) [
      | inl y ↦
          let same = eqb-true (variable e.lit) (variable l) y in
          let y' : (variable l == variable e.lit) ≡ true = eq-eqb (variable l) (variable e.lit) (sym same) in
          let rest = count_absent trail level c l (λ k m. false_from_ne_true (variable l == variable k) (λ t.
          never_both (contains (literals_of trail) k) m (none_later vars earlier trail e k both.1 (eq-eqb (variable e.lit) (variable k) (same ∙ eqb-true (variable l) (variable k) t))))) in
          let here : one_if (counts level (l ∷ c) e) ≡ one_if (e.level == level) =
          ap (λ (b : Bool). one_if (e.level == level && (b || mentions c (variable e.lit)))) y' ∙ ap one_if (and_right (e.level == level)) in
          let old : one_if (counts level c e) ≡ one_if (e.level == level && mentions c (variable l)) = ap (λ (v : ℕ). one_if (e.level == level && mentions c v)) same in
          let stands : stands_at (e ∷ trail) level l ≡ (e.level == level) =
          ap (λ (b : Bool). option_map_or (λ k. k == level) (option_map (λ (x : Entry). x.level) (cond b (Some e) (entry_of trail (variable l)))) false) y in
          let new : one_if (stands_at (e ∷ trail) level l && not (mentions c (variable l))) ≡ one_if ((e.level == level) && not (mentions c (variable l))) =
          ap (λ (b : Bool). one_if (b && not (mentions c (variable l)))) stands in
          let sum = split_test (e.level == level) (mentions c (variable l)) in
          omega (arith, first, first', rest, here, old, new, sum)
      | inr y ↦
          let y' = test_apart (variable e.lit) (variable l) y in
          let rest = count_literal vars (earlier ++ e ∷ []) trail level c l both.1 in
          let here : one_if (counts level (l ∷ c) e) ≡ one_if (counts level c e) =
          ap (λ (b : Bool). one_if (e.level == level && (b || mentions c (variable e.lit)))) y' in
          let stands : stands_at (e ∷ trail) level l ≡ stands_at trail level l =
          ap (λ (b : Bool). option_map_or (λ k. k == level) (option_map (λ (x : Entry). x.level) (cond b (Some e) (entry_of trail (variable l)))) false) y in
          let new : one_if (stands_at (e ∷ trail) level l && not (mentions c (variable l))) ≡ one_if (stands_at trail level l && not (mentions c (variable l))) =
          ap (λ (b : Bool). one_if (b && not (mentions c (variable l)))) stands in
          omega (arith, first, first', rest, here, new)
    ]
  where
    split_test : (a b : Bool) → one_if a ≡ one_if (a && b) + one_if (a && not b)
    split_test true true = refl
    split_test true false = refl
    split_test false b = refl

-- along a whole path
count_on_path : (vars : ℕ) (trail : List Entry) (level : ℕ) (c : List ℤ) (l : ℤ) → is_path vars trail ≡ true
    → count_at trail level (l ∷ c) ≡ count_at trail level c + one_if (stands_at trail level l && not (mentions c (variable l)))
unfolding is_path
count_on_path vars trail level c l h = count_literal vars [] trail level c l h

-- along the front of a trail
count_one : (p : Propagation) (before after : List Entry) (level : ℕ) (c : List ℤ) (l : ℤ) → IsPropagation p → p.trail ≡ before ++ after
    → count_at before level (l ∷ c) ≡ count_at before level c + one_if (stands_at before level l && not (mentions c (variable l)))
count_one p before after level c l h split =
    count_on_path p.vars before level c l (path_of (record p { trail = before }) (first_part p before after h split))

-- an entry of a variable that counts is counted
pub count_found : (trail : List Entry) (level : ℕ) (c : List ℤ) (v : ℕ) (e : Entry) → entry_of trail v ≡ Some e → e.level ≡ level → mentions c v ≡ true
    → 0 < count_at trail level c
count_found [] level c v e f same m = absurd (let z : ⊥ = cc in z)
count_found (d ∷ trail) level c v e f same m =
    let first = count_first d trail level c in
    at_test (variable d.lit == v) refl f (λ g. (let rest = count_found trail level c v e g same m in omega (arith, first, rest)))
  where
    at_test : (b : Bool) → (variable d.lit == v) ≡ b → cond b (Some d) (entry_of trail v) ≡ Some e → (entry_of trail v ≡ Some e → 0 < count_at (d ∷ trail) level c)
        → 0 < count_at (d ∷ trail) level c
    at_test true g f rest =
        let is : d ≡ e = cc in
        let on = eqb-true (variable d.lit) v g in
        let here : counts level c d ≡ true =
        and_from (d.level == level) (mentions c (variable d.lit)) (eq-eqb d.level level (ap (λ (x : Entry). x.level) is ∙ same)) (subst (λ (n : ℕ). mentions c n ≡ true) (sym on) m) in
        let one : one_if (counts level c d) ≡ 1 = ap one_if here in
        let first = count_first d trail level c in
        omega (arith, first, one)
    at_test false g f rest = rest f

-- where each level is lower nothing is counted
count_low : (trail : List Entry) (level most : ℕ) (c : List ℤ) → list_all (λ (e : Entry). nat_le e.level most) trail ≡ true → most < level → count_at trail level c ≡ 0
count_low [] level most c h lt = refl
count_low (e ∷ trail) level most c h lt =
    let both = and_true (nat_le e.level most) _ h in
    let low = leb-true e.level most both.0 in
    let apart : (e.level == level) ≡ false = false_from_ne_true (e.level == level) (λ t. (let same = eqb-true e.level level t in omega (arith, same, low, lt))) in
    let here : one_if (counts level c e) ≡ 0 = ap (λ (b : Bool). one_if (b && mentions c (variable e.lit))) apart in
    let rest = count_low trail level most c both.1 lt in
    let first = count_first e trail level c in
    omega (arith, here, rest, first)

-- so before an assigned literal none of the present level is
pub count_before : (p : Propagation) (before : List Entry) (e : Entry) (after : List Entry) (c : List ℤ) → IsPropagation p → p.trail ≡ before ++ e ∷ after → e.reason ≡ None
    → count_at before (present_level p.trail) c ≡ 0
count_before p before e after c h split none =
    let above = assigned_above p before e after h split none in
    let within = entry_within p before e after h split in
    count_low before (present_level p.trail) (present_level before) c
    (path_levels p.vars before (path_of (record p { trail = before }) (first_part p before (e ∷ after) h split))) (omega (arith, above, within))

-- where none of the present level is counted before an entry, no other literal is of it
pub count_alone : (p : Propagation) (before : List Entry) (e : Entry) (after : List Entry) (c : List ℤ) (k : ℤ) → IsPropagation p → p.trail ≡ before ++ e ∷ after
    → are_false_in (before ++ e ∷ []) c ≡ true → count_at before (present_level p.trail) c ≡ 0 → contains c k ≡ true → k ≢ complement e.lit
    → not (stands_at p.trail (present_level p.trail) k) ≡ true
count_alone p before e after c k h split f zero_count m apart =
    ap not (false_from_ne_true (stands_at p.trail (present_level p.trail) k) (λ t.
    (let x = entry_of_false (record p { trail = before }) k (first_part p before (e ∷ after) h split)
    (false_before before e k (passes_each (false_in (before ++ e ∷ [])) c k f m) apart) in
    let whole : entry_of p.trail (variable k) ≡ Some x.entry = found_first p before (e ∷ after) (variable k) x.entry split x.is in
    let both : Some x.entry.level ≡ Some (present_level p.trail) =
    sym (ap (option_map (λ (d : Entry). d.level)) whole) ∙ level_there p.trail (present_level p.trail) k t in
    let level : x.entry.level ≡ present_level p.trail = cc both in
    let some = count_found before (present_level p.trail) c (variable k) x.entry x.is level (mentions_of c k m) in
    omega (arith, some, zero_count))))

-- what two pieces count
count_both : (before after : List Entry) (level : ℕ) (c : List ℤ) → count_at (before ++ after) level c ≡ count_at before level c + count_at after level c
count_both [] after level c = omega arith
count_both (e ∷ before) after level c =
    let rest = count_both before after level c in
    let first = count_first e (before ++ after) level c in
    let first' = count_first e before level c in
    omega (arith, rest, first, first')

-- after the entries by which a clause is false nothing is counted
count_behind : (p : Propagation) (before after : List Entry) (level : ℕ) (c : List ℤ) → IsPropagation p → p.trail ≡ before ++ after → are_false_in before c ≡ true
    → count_at after level c ≡ 0
count_behind p before [] level c h split f = refl
count_behind p before (e ∷ after) level c h split f =
    let rest = count_behind p (before ++ e ∷ []) after level c h (split ∙ sym (append_assoc before (e ∷ []) after)) (false_more before (e ∷ []) c f) in
    let absent : mentions c (variable e.lit) ≡ false = false_from_ne_true (mentions c (variable e.lit)) (λ m.
    (let w = literal_passing (λ k. variable k == variable e.lit) c m in
    other_variable p before e after w.0 h split (passes_each (false_in before) c w.0 f w.1) (eqb-true (variable w.0) (variable e.lit) w.2))) in
    let here : one_if (counts level c e) ≡ 0 = ap (λ (b : Bool). one_if (e.level == level && b)) absent ∙ neither (e.level == level) in
    let first = count_first e after level c in
    omega (arith, rest, here, first)
  where
    neither : (b : Bool) → one_if (b && false) ≡ 0
    neither true = refl
    neither false = refl

-- where one of the present level is counted, the last entry is of that level
count_present : (p : Propagation) (before : List Entry) (e : Entry) (after : List Entry) (c : List ℤ) → IsPropagation p → p.trail ≡ before ++ e ∷ after
    → 0 < count_at (before ++ e ∷ []) (present_level p.trail) c → e.level ≡ present_level p.trail
count_present p before e after c h split some = at_test (nat_lt e.level (present_level p.trail)) refl
  where
    at_test : (b : Bool) → nat_lt e.level (present_level p.trail) ≡ b → e.level ≡ present_level p.trail
    at_test true lower =
        let q = first_part p (before ++ e ∷ []) after h (split ∙ sym (append_assoc before (e ∷ []) after)) in
        let last = last_level before e in
        let low = path_levels p.vars (before ++ e ∷ []) (path_of (record p { trail = before ++ e ∷ [] }) q) in
        let none = count_low (before ++ e ∷ []) (present_level p.trail) (present_level (before ++ e ∷ [])) c low
        (let lt = ltb-true e.level (present_level p.trail) lower in omega (arith, last, lt)) in
        absurd (omega (arith, some, none))
    at_test false above =
        let within = entry_within p before e after h split in
        let le = ltb-false e.level (present_level p.trail) above in
        omega (arith, within, le)

-- all of it
pub place_law : PlaceLaw
place_law = record {
  place = place_of;
  last = last_level;
  few = few_entries;
  by_variables = known_by_variables;
  holds = holds_complement;
  resolves = resolvent_mentions;
  none = count_none;
  one_more = count_one;
  one_entry = count_entry;
  same = count_same;
  assigned = count_before;
  alone = count_alone;
  both = count_both;
  behind = count_behind;
  present = count_present;
}
