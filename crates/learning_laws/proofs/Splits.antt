-- A trail that an entry splits.
use Rattle.std.proofs.Common.{◌≡◌, ◌≢◌, ◌∙◌, ℕ, ◌+◌, ◌≤◌, ◌==◌, ◌++◌, ◌∷◌, [], true, false, not, ◌||◌, List, ℤ, Option, Some, None, is_some, option_map, refl, sym, ap, subst, arith, inl, inr, append_assoc}
use Rattle.std.specs.Option.{option_map_or}
use Rattle.std.specs.List.{list_all}
use Rattle.std.specs.Ordering.{int_eq}
use Rattle.std.proofs.lemmas.Bool.{eqb-true, false_from_ne_true}
use Rattle.std.proofs.lemmas.List.Folds.{list_any-append}
use Rattle.lk_model.specs.Formulas.Literal.{variable, complement, contains}
use Rattle.lk_model.specs.Chains.Chain.{without}
use Rattle.lk_model.proofs.Booleans.{and_true, or_true}
use Rattle.lk_model.proofs.ListTests.{passes_each}
use Rattle.lk_model.proofs.Founds.{all_literals}
use Rattle.kernel_laws.proofs.Clauses.{from_filtered, in_either}
use Rattle.general_laws.proofs.Numbering.{found_before}
use Rattle.watch_prop.specs.declared.entry.Entry.{Entry}
use Rattle.watch_prop.specs.Trail.{literals_of, false_in, entry_of, level_of, present_level, clause_numbered, forces, has_reason, may_come, may_follow, is_trail}
use Rattle.watch_prop.specs.Propagation.{Propagation, IsPropagation}
use Rattle.watch_prop.proofs.Paths.{Comes, comes, entry_here, literals_more}
use Rattle.watch_prop.proofs.Truths.{same_true, true_by_entry}
use Rattle.lk_model.proofs.Literals.{same_int, variable_complement, complement_twice}
use Rattle.watch_prop.proofs.Trails.{level_within, trail_path, trail_prefix, first_follows}
use Rattle.learning_laws.specs.Learned.{stands_at, are_false_in}
use Rattle.learning_laws.specs.ChainLaw.{IsStepBack}
use Rattle.learning_laws.specs.TrailLaw.{IsForced}
use Rattle.learning_laws.proofs.Levels.{level_there, false_low}
use Rattle.learning_laws.proofs.Tests.{not_both}

-- the propagation with the front of its trail
pub first_part : (p : Propagation) (before after : List Entry) → IsPropagation p → p.trail ≡ before ++ after → IsPropagation (record p { trail = before })
first_part p before after h split = record {
  vars = h.vars;
  clauses = h.clauses;
  numbers = h.numbers;
  trail = trail_prefix p.vars p.clauses before after (subst (λ (t : List Entry). is_trail p.vars p.clauses t ≡ true) split h.trail);
}

-- an entry may follow what stands before it
pub follows : (p : Propagation) (before : List Entry) (e : Entry) (after : List Entry) → IsPropagation p → p.trail ≡ before ++ e ∷ after
    → may_follow p.vars p.clauses before e ≡ true
follows p before e after h split =
    first_follows p.vars p.clauses before e after (subst (λ (t : List Entry). is_trail p.vars p.clauses t ≡ true) split h.trail)

-- and may come after it
pub comes_there : (p : Propagation) (before : List Entry) (e : Entry) (after : List Entry) → IsPropagation p → p.trail ≡ before ++ e ∷ after → Comes p.vars before e
comes_there p before e after h split =
    comes p.vars before e (and_true (may_come p.vars before e) (has_reason p.clauses before e) (follows p before e after h split)).0

-- it is the entry of its variable
pub entry_found : (p : Propagation) (before : List Entry) (e : Entry) (after : List Entry) → IsPropagation p → p.trail ≡ before ++ e ∷ after
    → entry_of p.trail (variable e.lit) ≡ Some e
entry_found p before e after h split =
    let here = entry_here before e (comes_there p before e after h split).absent in
    subst (λ (t : List Entry). entry_of t (variable e.lit) ≡ Some e) (sym (split ∙ sym (append_assoc before (e ∷ []) after)))
    (found_before (λ (d : Entry). variable d.lit == variable e.lit) (before ++ e ∷ []) after e here)

-- its level is at most the present one
pub entry_within : (p : Propagation) (before : List Entry) (e : Entry) (after : List Entry) → IsPropagation p → p.trail ≡ before ++ e ∷ after
    → e.level ≤ present_level p.trail
entry_within p before e after h split =
    level_within p (variable e.lit) e.level h (ap (option_map (λ (d : Entry). d.level)) (entry_found p before e after h split))

-- an assigned literal is one level above what stands before it
pub assigned_above : (p : Propagation) (before : List Entry) (e : Entry) (after : List Entry) → IsPropagation p → p.trail ≡ before ++ e ∷ after → e.reason ≡ None
    → e.level ≡ present_level before + 1
assigned_above p before e after h split none =
    eqb-true e.level (present_level before + 1)
    (subst (λ (r : Option ℕ). option_map_or (λ _. e.level == present_level before) r (e.level == present_level before + 1) ≡ true) none (comes_there p before e after h split).level)

-- WHAT IS FALSE BEFORE AN ENTRY

-- what is false with one more entry is false before it, or is the entry's complement
pub false_before : (before : List Entry) (e : Entry) (k : ℤ) → false_in (before ++ e ∷ []) k ≡ true → k ≢ complement e.lit → false_in before k ≡ true
false_before before e k f apart =
    let parts : (contains (literals_of before) (complement k) || (int_eq (complement k) e.lit || false)) ≡ true =
    sym (list_any-append (int_eq (complement k)) (literals_of before) (e.lit ∷ []))
    ∙ sym (ap (λ (ls : List ℤ). contains ls (complement k)) (literals_more before e)) ∙ f in
    elim (or_true (contains (literals_of before) (complement k)) (int_eq (complement k) e.lit || false) parts) [
      | inl y ↦ y
      | inr y ↦ elim (or_true (int_eq (complement k) e.lit) false y) [
        | inl z ↦ absurd (apart (sym (complement_twice k) ∙ ap complement (same_int (complement k) e.lit z)))
        | inr z ↦ absurd (let q : ⊥ = cc in q)
      ]
    ]

-- a clause that doesn't contain the complement is false before the entry
pub passed_by : (before : List Entry) (e : Entry) (c : List ℤ) → are_false_in (before ++ e ∷ []) c ≡ true → not (contains c (complement e.lit)) ≡ true
    → are_false_in before c ≡ true
passed_by before e c f absent =
    all_literals (false_in before) c (λ k m. false_before before e k (passes_each (false_in (before ++ e ∷ [])) c k f m)
    (λ same. not_both (contains c (complement e.lit)) absent (subst (λ (x : ℤ). contains c x ≡ true) same m)))

-- an entry that was forced has its clause
pub reason_of_entry : (p : Propagation) (before : List Entry) (e : Entry) (after : List Entry) (k : ℕ) → IsPropagation p → p.trail ≡ before ++ e ∷ after → e.reason ≡ Some k
    → IsForced p before e k
reason_of_entry p before e after k h split some = at_clause (clause_numbered p.clauses k) refl
    (subst (λ (r : Option ℕ). option_map_or (λ k. option_map_or (λ c. forces c before e.lit) (clause_numbered p.clauses k) false) r true ≡ true) some
    (and_true (may_come p.vars before e) (has_reason p.clauses before e) (follows p before e after h split)).1)
  where
    at_clause : (o : Option (List ℤ)) → clause_numbered p.clauses k ≡ o → option_map_or (λ c. forces c before e.lit) o false ≡ true → IsForced p before e k
    at_clause None f g = absurd (let z : ⊥ = cc in z)
    at_clause (Some c) f g = record { clause = c; named = f; force = g }

-- the resolvent with the reason is false before the entry
pub step_back : (p : Propagation) (before : List Entry) (e : Entry) (after : List Entry) (k : ℕ) (c : List ℤ) → IsPropagation p → p.trail ≡ before ++ e ∷ after
    → e.reason ≡ Some k → are_false_in (before ++ e ∷ []) c ≡ true → IsStepBack p before e.lit k c
step_back p before e after k c h split some f =
    let r = reason_of_entry p before e after k h split some in
    let parts = and_true (contains r.clause e.lit) (list_all (λ k. int_eq k e.lit || contains (literals_of before) (complement k)) r.clause) r.force in
    record {
      other = r.clause;
      named = r.named;
      holds = parts.0;
      falsified = all_literals (false_in before) (without c (complement e.lit) ++ without r.clause e.lit)
          (λ m there. elim (in_either (without c (complement e.lit)) (without r.clause e.lit) m there) [
            | inl this ↦
                let both = from_filtered (λ k. not (int_eq k (complement e.lit))) c m this in
                false_before before e m (passes_each (false_in (before ++ e ∷ [])) c m f both.1) (apart_by m (complement e.lit) both.0)
            | inr that ↦
                let both = from_filtered (λ k. not (int_eq k e.lit)) r.clause m that in
                elim (or_true (int_eq m e.lit) (contains (literals_of before) (complement m)) (passes_each (λ k. int_eq k e.lit || contains (literals_of before) (complement k)) r.clause m parts.1 both.1)) [
                  | inl y ↦ absurd (apart_by m e.lit both.0 (same_int m e.lit y))
                  | inr y ↦ y
                ]
          ]);
    }
  where
    apart_by : (a b : ℤ) → not (int_eq a b) ≡ true → a ≢ b
    apart_by a b n e = not_both (int_eq a b) n (same_true a b e)

-- LEVELS BEFORE AN ENTRY

-- a literal that is false in the front has an entry there
pub record HasEntry (trail : List Entry) (l : ℤ) : Type 0 where
  pub entry : Entry
  pub is : entry_of trail (variable l) ≡ Some entry

-- the entry of its variable
pub entry_of_false : (p : Propagation) (l : ℤ) → IsPropagation p → false_in p.trail l ≡ true → HasEntry p.trail l
entry_of_false p l h f = at_entry (entry_of p.trail (variable l)) refl
    (subst (λ (v : ℕ). option_map_or (λ (e : Entry). int_eq e.lit (complement l)) (entry_of p.trail v) false ≡ true) (variable_complement l)
    (true_by_entry p.vars p.trail (complement l) (trail_path p.vars p.clauses p.trail h.trail) (let low = false_low p l h f in omega (arith, low, variable_complement l)) ∙ f))
  where
    at_entry : (o : Option Entry) → entry_of p.trail (variable l) ≡ o → option_map_or (λ (e : Entry). int_eq e.lit (complement l)) o false ≡ true → HasEntry p.trail l
    at_entry None g t = absurd (let z : ⊥ = cc in z)
    at_entry (Some e) g t = record { entry = e; is = g }

-- an entry of the front is one of the whole trail
pub found_first : (p : Propagation) (before after : List Entry) (v : ℕ) (e : Entry) → p.trail ≡ before ++ after → entry_of before v ≡ Some e → entry_of p.trail v ≡ Some e
found_first p before after v e split f =
    subst (λ (t : List Entry). entry_of t v ≡ Some e) (sym split) (found_before (λ (e : Entry). variable e.lit == v) before after e f)

-- each false literal has a level, at most the present one
pub record HasLevel (trail : List Entry) (l : ℤ) (most : ℕ) : Type 0 where
  pub level : ℕ
  pub is : level_of trail (variable l) ≡ Some level
  pub within : level ≤ most

-- of the front, as of the whole trail
pub level_before : (p : Propagation) (before after : List Entry) (l : ℤ) → IsPropagation p → p.trail ≡ before ++ after → false_in before l ≡ true
    → HasLevel p.trail l (present_level before)
level_before p before after l h split f =
    let q = first_part p before after h split in
    let x = entry_of_false (record p { trail = before }) l q f in
    let there = ap (option_map (λ (e : Entry). e.level)) x.is in
    record {
      level = x.entry.level;
      is = ap (option_map (λ (e : Entry). e.level)) (found_first p before after (variable l) x.entry split x.is);
      within = level_within (record p { trail = before }) (variable l) x.entry.level q there;
    }

-- so beside the complement of an assigned literal none is of the present level
pub none_present : (p : Propagation) (before : List Entry) (e : Entry) (after : List Entry) (c : List ℤ) (k : ℤ) → IsPropagation p → p.trail ≡ before ++ e ∷ after
    → e.reason ≡ None → are_false_in (before ++ e ∷ []) c ≡ true → contains c k ≡ true → k ≢ complement e.lit
    → not (stands_at p.trail (present_level p.trail) k) ≡ true
none_present p before e after c k h split none f m apart =
    let x = level_before p before (e ∷ after) k h split (false_before before e k (passes_each (false_in (before ++ e ∷ [])) c k f m) apart) in
    let above = assigned_above p before e after h split none in
    let within = entry_within p before e after h split in
    ap not (false_from_ne_true (stands_at p.trail (present_level p.trail) k) (λ t.
    (let same : Some x.level ≡ Some (present_level p.trail) = sym x.is ∙ level_there p.trail (present_level p.trail) k t in
    let level : x.level ≡ present_level p.trail = cc same in
    let low = x.within in omega (arith, level, low, above, within))))

-- at level 0 each literal was forced
pub forced_at_zero : (p : Propagation) (before : List Entry) (e : Entry) (after : List Entry) → IsPropagation p → present_level p.trail ≡ 0 → p.trail ≡ before ++ e ∷ after
    → is_some e.reason ≡ true
forced_at_zero p before e after h low split = at_reason e.reason refl
  where
    at_reason : (r : Option ℕ) → e.reason ≡ r → is_some r ≡ true
    at_reason None f =
        let above = assigned_above p before e after h split f in
        let within = entry_within p before e after h split in
        absurd (omega (arith, above, within, low))
    at_reason (Some k) f = refl
