-- A clause without a literal, by its reason.
use Rattle.std.proofs.Common.{◌≡◌, ◌≢◌, ◌∙◌, ℕ, ◌+◌, ◌<◌, ◌==◌, ◌++◌, ◌∷◌, [], Bool, true, false, not, ◌&&◌, List, ℤ, Option, Some, None, nat_le, length, take, drop, get_or, refl, sym, ap, subst, arith, inl, inr}
use Rattle.std.specs.Option.{option_map_or}
use Rattle.std.specs.Ordering.{int_eq}
use Rattle.std.proofs.lemmas.Bool.{eqb-true, eq-eqb, leb-true, and_from, false_from_ne_true}
use Rattle.std.proofs.lemmas.List.Folds.{list_any-append}
use Rattle.lk_model.specs.Formulas.Literal.{variable, complement, contains, mentions}
use Rattle.lk_model.specs.Held.VariableSets.{is_in}
use Rattle.lk_model.specs.Chains.Chain.{Premises, without, chain_clause}
use Rattle.lk_model.specs.declared.document.Turn.{Turn}
use Rattle.lk_model.proofs.Booleans.{and_true, or_true, or_left, or_right, same_tests}
use Rattle.lk_model.proofs.Variables.{literal_passing}
use Rattle.lk_model.proofs.ListTests.{passes_each, passes_one}
use Rattle.lk_model.proofs.Founds.{all_literals}
use Rattle.lk_model.proofs.Literals.{same_int, int_self, complement_twice, variable_complement}
use Rattle.kernel_laws.proofs.Clauses.{in_without, from_filtered, in_either}
use Rattle.watch_prop.specs.declared.entry.Entry.{Entry}
use Rattle.watch_prop.specs.Trail.{literals_of, false_in, true_in, level_of, reason_of, present_level, clause_numbered}
use Rattle.watch_prop.specs.Propagation.{Propagation, IsPropagation}
use Rattle.watch_prop.proofs.Truths.{same_true}
use Rattle.learning_laws.specs.Learned.{are_false_in, stands_at, stands_up_to}
use Rattle.learning_laws.specs.ChainLaw.{AreNamed, IsLearned}
use Rattle.learning_laws.specs.WalkLaw.{turn_on}
use Rattle.learning_laws.proofs.Tests.{not_both}
use Rattle.learning_laws.proofs.Levels.{level_there}
use Rattle.learning_laws.proofs.Backwards.{chain_law, false_more, names_more}
use Rattle.learning_laws.proofs.Places.{other_variable}
use Rattle.learning_laws.proofs.Counts.{place_law}
use Rattle.cdcl_core.specs.Backward.{EndsBack, IsReasonWithin, LeadsBack}

-- the literal of an entry is one of the trail's
entry_there : (before : List Entry) (e : Entry) (after : List Entry) → true_in (before ++ e ∷ after) e.lit ≡ true
entry_there [] e after = or_left (int_eq e.lit e.lit) _ (int_self e.lit)
entry_there (d ∷ before) e after = or_right (int_eq e.lit d.lit) (true_in (before ++ e ∷ after) e.lit) (entry_there before e after)

-- two false literals of one variable are equal
one_false : (p : Propagation) (m k : ℤ) → IsPropagation p → false_in p.trail m ≡ true → false_in p.trail k ≡ true → variable m ≡ variable k → k ≡ m
one_false p m k h false_m false_k same =
    let alone : are_false_in p.trail (m ∷ []) ≡ true = and_from (false_in p.trail m) true false_m refl in
    let there : mentions (m ∷ []) (variable k) ≡ true = or_left (variable m == variable k) false (eq-eqb (variable m) (variable k) same) in
    let by : contains (m ∷ []) k ≡ true = place_law.by_variables p (m ∷ []) k h alone ∙ and_from (mentions (m ∷ []) (variable k)) (false_in p.trail k) there false_k in
    elim (or_true (int_eq k m) false by) [
      | inl y ↦ same_int k m y
      | inr y ↦ absurd (let z : ⊥ = cc in z)
    ]

-- what stands up to a lower level does not stand at the present one
lower_apart : (trail : List Entry) (level present : ℕ) (k : ℤ) → level < present → stands_up_to trail level k ≡ true → not (stands_at trail present k) ≡ true
lower_apart trail level present k lt up = at_level (level_of trail (variable k)) up
  where
    at_level : (o : Option ℕ) → option_map_or (λ n. nat_le n level) o false ≡ true → not (option_map_or (λ n. n == present) o false) ≡ true
    at_level None f = refl
    at_level (Some n) f = ap not (false_from_ne_true (n == present) (λ t.
        (let same = eqb-true n present t in let under = leb-true n level f in omega (arith, same, under, lt))))

-- the complement of an entry's literal is false
complement_false : (p : Propagation) (before : List Entry) (e : Entry) (after : List Entry) → p.trail ≡ before ++ e ∷ after → false_in p.trail (complement e.lit) ≡ true
complement_false p before e after split =
    ap (true_in p.trail) (complement_twice e.lit) ∙ subst (λ (t : List Entry). true_in t e.lit ≡ true) (sym split) (entry_there before e after)

-- so a false clause on its variable contains it
contains_complement : (p : Propagation) (before : List Entry) (e : Entry) (after : List Entry) (c : List ℤ) → IsPropagation p → p.trail ≡ before ++ e ∷ after
    → are_false_in p.trail c ≡ true → mentions c (variable e.lit) ≡ true → contains c (complement e.lit) ≡ true
contains_complement p before e after c h split falsified there =
    place_law.by_variables p c (complement e.lit) h falsified
    ∙ and_from (mentions c (variable (complement e.lit))) (false_in p.trail (complement e.lit)) (ap (mentions c) (variable_complement e.lit) ∙ there)
    (complement_false p before e after split)

-- the reason of an entry contains its literal, and the others are false before it
reason_there : (p : Propagation) (before : List Entry) (e : Entry) (after : List Entry) (k : ℕ) (d : List ℤ) → IsPropagation p → p.trail ≡ before ++ e ∷ after → e.reason ≡ Some k
    → clause_numbered p.clauses k ≡ Some d → (contains d e.lit ≡ true) × (are_false_in before (without d e.lit) ≡ true)
reason_there p before e after k d h split forced found =
    let s = chain_law.back p before e after k [] h split forced refl in
    let both : Some s.other ≡ Some d = sym s.named ∙ found in
    let same : s.other ≡ d = cc both in
    subst (λ (x : List ℤ). (contains x e.lit ≡ true) × (are_false_in before (without x e.lit) ≡ true)) same (s.holds, s.falsified)

-- Where a clause is false, and a reason of a literal has only variables of the clause, each literal of the resolvent is one
-- of the clause, and none is on the variable of the literal.
record IsShorter (p : Propagation) (c : List ℤ) (l : ℤ) (r : List ℤ) : Type 0 where
  pub kept : (m : ℤ) → contains r m ≡ true → (contains c m ≡ true) × (variable m ≢ variable l)
  pub others : (m : ℤ) → contains c m ≡ true → variable m ≢ variable l → contains r m ≡ true

shorter : (p : Propagation) (before : List Entry) (e : Entry) (after : List Entry) (k : ℕ) (c d : List ℤ) → IsPropagation p → p.trail ≡ before ++ e ∷ after → e.reason ≡ Some k
    → clause_numbered p.clauses k ≡ Some d → are_false_in p.trail c ≡ true → ((m : ℤ) → contains d m ≡ true → mentions c (variable m) ≡ true)
    → IsShorter p c e.lit (without c (complement e.lit) ++ without d e.lit)
shorter p before e after k c d h split forced found falsified covers = record {
  kept = λ m there. elim (in_either (without c (complement e.lit)) (without d e.lit) m there) [
    | inl this ↦
        let both = from_filtered (λ k. not (int_eq k (complement e.lit))) c m this in (
          both.1,
          λ same. not_both (int_eq m (complement e.lit)) both.0
              (same_true m (complement e.lit) (sym (one_false p m (complement e.lit) h (passes_each (false_in p.trail) c m falsified both.1) (complement_false p before e after split)
              (same ∙ sym (variable_complement e.lit))))),
        )
    | inr that ↦
        let both = from_filtered (λ k. not (int_eq k e.lit)) d m that in
        let early = passes_each (false_in before) (without d e.lit) m reason_false that in
        let mentioned = covers m both.1 in (
          place_law.by_variables p c m h falsified ∙ and_from (mentions c (variable m)) (false_in p.trail m) mentioned (passes_each (false_in p.trail) (without d e.lit) m whole_false that),
          other_variable p before e after m h split early,
        )
  ];
  others = λ m there apart.
      in_first (without c (complement e.lit)) (without d e.lit) m
      (in_without c (complement e.lit) m there (false_from_ne_true (int_eq m (complement e.lit)) (λ t. apart (ap variable (same_int m (complement e.lit) t) ∙ variable_complement e.lit))));
}
  where
    reason_false : are_false_in before (without d e.lit) ≡ true
    reason_false = (reason_there p before e after k d h split forced found).1

    whole_false : are_false_in p.trail (without d e.lit) ≡ true
    whole_false = subst (λ (t : List Entry). are_false_in t (without d e.lit) ≡ true) (sym split) (false_more before (e ∷ after) (without d e.lit) reason_false)

    in_first : (xs ys : List ℤ) (m : ℤ) → contains xs m ≡ true → contains (xs ++ ys) m ≡ true
    in_first xs ys m there = list_any-append (int_eq m) xs ys ∙ or_left (contains xs m) (contains ys m) there

-- the variables that it keeps
shorter_marks : (p : Propagation) (c : List ℤ) (l : ℤ) (r : List ℤ) (v : ℕ) → IsShorter p c l r → (mentions c v && not (v == variable l)) ≡ mentions r v
shorter_marks p c l r v s = same_tests (mentions c v && not (v == variable l)) (mentions r v)
    (λ e.
    let both = and_true (mentions c v) (not (v == variable l)) e in
    let w = literal_passing (λ k. variable k == v) c both.0 in
    let on = eqb-true (variable w.0) v w.2 in
    passes_one (λ k. variable k == v) r w.0 (s.others w.0 w.1 (λ same. not_both (v == variable l) both.1 (eq-eqb v (variable l) (sym on ∙ same)))) w.2)
    (λ e.
    let w = literal_passing (λ k. variable k == v) r e in
    let on = eqb-true (variable w.0) v w.2 in
    let kept = s.kept w.0 w.1 in
    and_from (mentions c v) (not (v == variable l)) (passes_one (λ k. variable k == v) c w.0 kept.0 w.2)
    (ap not (false_from_ne_true (v == variable l) (λ t. kept.1 (on ∙ eqb-true v (variable l) t)))))

-- it is learned if the literal does not stand at the present level
shorter_learned : (p : Propagation) (c : List ℤ) (l : ℤ) (r : List ℤ) → IsPropagation p → 0 < present_level p.trail → level_of p.trail (variable l) ≢ Some (present_level p.trail)
    → IsShorter p c l r → IsLearned p.trail c → IsLearned p.trail r
shorter_learned p c l r h above lower s old =
    let w = old.learned in
    let u = old.literal in
    let falsified : are_false_in p.trail r ≡ true = all_literals (false_in p.trail) r (λ m there. passes_each (false_in p.trail) c m w.falsified (s.kept m there).0) in
    let stays = s.others u w.there (λ same. lower (ap (level_of p.trail) (sym same) ∙ level_there p.trail (present_level p.trail) u w.present)) in
    let found = chain_law.learned p r u h above falsified stays w.present
    (λ k there apart. lower_apart p.trail old.level (present_level p.trail) k w.below (w.others k (s.kept k there).0 apart)) in
    record { literal = u; level = found.0; learned = found.1 }

-- one turn more, on a literal whose reason has only variables of the clause
shortens_from : (p : Propagation) (from : Premises) (first : ℕ) (turns : List Turn) (marks marks' : List Bool) (i k : ℕ) (l : ℤ) → IsPropagation p → 0 < present_level p.trail
    → AreNamed p from → i < length p.trail → l ≡ get_or (literals_of p.trail) i l → IsReasonWithin p (variable l) k marks
    → ((u : ℕ) → is_in marks' u ≡ (is_in marks u && not (u == variable l))) → EndsBack p from first turns marks → EndsBack p from first (turns ++ turn_on l k ∷ []) marks'
shortens_from p from first turns marks marks' i k l h above names lt read w removed x =
    let at = place_law.place p i h lt in
    let e = at.entry in
    let c = x.clause in
    let d = w.clause in
    let r = without c (complement e.lit) ++ without d e.lit in
    let lit : l ≡ at.entry.lit = read ∙ at.lit l in
    let forced : at.entry.reason ≡ Some k = sym at.reason ∙ ap (λ (x : ℤ). reason_of p.trail (variable x)) (sym lit) ∙ w.forced in
    let learned = x.learned above in
    let s = shorter p (take i p.trail) e (drop (i + 1) p.trail) k c d h at.whole forced w.named learned.learned.falsified
    (λ m there. sym (x.marked (variable m)) ∙ passes_each (λ l. is_in marks (variable l)) d m w.within there) in
    let lower : level_of p.trail (variable e.lit) ≢ Some (present_level p.trail) = λ is. w.lower (ap (λ (x : ℤ). level_of p.trail (variable x)) lit ∙ is) in
    let there : mentions c (variable e.lit) ≡ true = sym (x.marked (variable e.lit)) ∙ ap (λ (x : ℤ). is_in marks (variable x)) (sym lit) ∙ w.marked in
    let held = contains_complement p (take i p.trail) e (drop (i + 1) p.trail) c h at.whole learned.learned.falsified there in
    let twice = complement_twice e.lit in
    let against : contains d (complement (complement e.lit)) ≡ true =
    subst (λ (x : ℤ). contains d x ≡ true) (sym twice) (reason_there p (take i p.trail) e (drop (i + 1) p.trail) k d h at.whole forced w.named).0 in
    let chain = chain_law.more from first turns (turn_on e.lit k) c d x.chain (names k d w.named) held against in
    subst (λ (m : ℤ). EndsBack p from first (turns ++ turn_on m k ∷ []) marks') (sym lit) (record {
      clause = r;
      chain = subst (λ (m : ℤ). chain_clause from first (turns ++ turn_on e.lit k ∷ []) ≡ Some (without c (complement e.lit) ++ without d m)) twice chain;
      names = names_more p first turns (turn_on e.lit k) x.names (rw (w.named) refl);
      marked = λ u. removed u ∙ ap (λ (b : Bool). b && not (u == variable l)) (x.marked u) ∙ ap (λ (m : ℤ). mentions c u && not (u == variable m)) lit
          ∙ shorter_marks p c e.lit r u s;
      learned = λ _. shorter_learned p c e.lit r h above lower s learned;
      empty = λ zero_level. absurd (omega (arith, above, zero_level));
    })

pub shortens : (p : Propagation) (first : ℕ) (turns : List Turn) (marks marks' : List Bool) (i k : ℕ) (l : ℤ) → IsPropagation p → 0 < present_level p.trail
    → i < length p.trail → l ≡ get_or (literals_of p.trail) i l → IsReasonWithin p (variable l) k marks
    → ((u : ℕ) → is_in marks' u ≡ (is_in marks u && not (u == variable l))) → LeadsBack p first turns marks → LeadsBack p first (turns ++ turn_on l k ∷ []) marks'
shortens p first turns marks marks' i k l h above lt read w removed leads = λ from names.
    shortens_from p from first turns marks marks' i k l h above names lt read w removed (leads from names)
