-- The walk back along the trail, by places.
use Rattle.std.proofs.Common.{◌≡◌, ◌∙◌, ℕ, ◌+◌, ◌<◌, ◌≤◌, ◌==◌, ◌++◌, ◌∷◌, [], Bool, true, false, not, ◌&&◌, List, ℤ, Option, Some, None, IsSome, option_map, length, take, take_all, drop, refl, sym, ap, subst, arith, inl, inr, append_assoc}
use Rattle.std.specs.Ordering.{int_eq}
use Rattle.std.proofs.lemmas.Bool.{cases_Bool, eqb-true, false_from_ne_true}
use Rattle.lk_model.specs.Formulas.Literal.{variable, complement, contains, mentions}
use Rattle.lk_model.specs.Chains.Chain.{Premises, without, chain_clause}
use Rattle.lk_model.specs.declared.document.Turn.{Turn}
use Rattle.lk_model.proofs.Booleans.{or_left, or_right}
use Rattle.kernel_laws.proofs.Clauses.{mentions_of}
use Rattle.watch_prop.specs.declared.entry.Entry.{Entry}
use Rattle.watch_prop.specs.declared.entry.Propagated.TheVariants.{Conflict}
use Rattle.watch_prop.specs.Trail.{literals_of, false_in, entry_of, level_of, present_level, clause_numbered}
use Rattle.watch_prop.specs.Propagation.{Propagation, IsPropagation, IsAnswered, assigned}
use Rattle.lk_model.specs.Formulas.Units.{is_false}
use Rattle.watch_prop.proofs.Truths.{same_true}
use Rattle.lk_model.proofs.Literals.{complement_twice, variable_complement}
use Rattle.lk_model.proofs.LongerChains.{chain_begins, chain_more}
use Rattle.learning_laws.specs.Learned.{stands_at, are_false_in, IsQuietBelow, IsLearnedFor}
use Rattle.learning_laws.specs.ChainLaw.{AreNamed}
use Rattle.learning_laws.specs.PlaceLaw.{IsPlace, count_at}
use Rattle.learning_laws.specs.WalkLaw.{IsWalk, turn_on, WalkLaw}
use Rattle.learning_laws.proofs.Tests.{above_zero}
use Rattle.learning_laws.proofs.Levels.{level_there}
use Rattle.learning_laws.proofs.Splits.{step_back, passed_by, forced_at_zero}
use Rattle.learning_laws.proofs.Conflicts.{conflict_clause, conflict_present, held_false, stands_there, learned_for}
use Rattle.learning_laws.proofs.Backwards.{false_more, names_more, none_left}
use Rattle.learning_laws.proofs.Places.{holds_complement, other_variable, resolvent_mentions}
use Rattle.learning_laws.proofs.Counts.{one_if, counts, count_first, count_entry, count_found, count_before, count_alone}

-- the conflict's clause is false
conflict_false : (p : Propagation) (k : ℕ) (c : List ℤ) → IsAnswered p (Conflict k) → clause_numbered p.clauses k ≡ Some c → is_false (assigned p) c ≡ true
conflict_false p k c h found =
    let w = conflict_clause p k h in
    let both : Some w.0 ≡ Some c = sym w.1 ∙ found in
    let same : w.0 ≡ c = cc both in subst (λ (x : List ℤ). is_false (assigned p) x ≡ true) same w.2

-- a literal of a clause that stands at a level is counted
literal_counted : (trail : List Entry) (level : ℕ) (c : List ℤ) (l : ℤ) → contains c l ≡ true → stands_at trail level l ≡ true → 0 < count_at trail level c
literal_counted trail level c l m s = at_entry (entry_of trail (variable l)) refl (level_there trail level l s)
  where
    at_entry : (o : Option Entry) → entry_of trail (variable l) ≡ o → option_map (λ (e : Entry). e.level) o ≡ Some level → 0 < count_at trail level c
    at_entry None f g = absurd (let z : ⊥ = cc in z)
    at_entry (Some e) f g = count_found trail level c (variable l) e f (let same : e.level ≡ level = cc in same) (mentions_of c l m)

-- the start
walk_start : (p : Propagation) (from : Premises) (k : ℕ) (c : List ℤ) → IsPropagation p → IsQuietBelow p → AreNamed p from → IsAnswered p (Conflict k)
    → clause_numbered p.clauses k ≡ Some c → IsWalk p from k [] c (length p.trail)
walk_start p from k c h q names answered found =
    let f = conflict_false p k c answered found in
    let whole : take (length p.trail) p.trail ≡ p.trail = take_all (length p.trail) p.trail (omega arith) in
    record {
      within = omega arith;
      chain = chain_begins from k c (names k c found);
      names = rw (found) refl;
      falsified = subst (λ (t : List Entry). are_false_in t c ≡ true) (sym whole) (held_false p k c h found f);
      present = λ above.
          let w = conflict_present p k c h q above found f in
          subst (λ (t : List Entry). 0 < count_at t (present_level p.trail) c) (sym whole) (literal_counted p.trail (present_level p.trail) c w.0 w.1 w.2);
    }

-- what is false up to a place and the next one
false_next : (p : Propagation) (c : List ℤ) (i : ℕ) → (at : IsPlace p.trail i) → are_false_in (take (i + 1) p.trail) c ≡ true
    → are_false_in (take i p.trail ++ at.entry ∷ []) c ≡ true
false_next p c i at f = subst (λ (t : List Entry). are_false_in t c ≡ true) at.next f

-- the count up to the next place
count_next : (p : Propagation) (c : List ℤ) (i level : ℕ) → (at : IsPlace p.trail i)
    → count_at (take (i + 1) p.trail) level c ≡ count_at (take i p.trail) level c + one_if (counts level c at.entry)
count_next p c i level at = ap (λ (t : List Entry). count_at t level c) at.next ∙ count_entry (take i p.trail) at.entry level c

-- a literal that is passed
walk_pass : (p : Propagation) (from : Premises) (first : ℕ) (turns : List Turn) (c : List ℤ) (i : ℕ) → IsPropagation p → (at : IsPlace p.trail i)
    → IsWalk p from first turns c (i + 1) → not (mentions c (variable at.entry.lit)) ≡ true → IsWalk p from first turns c i
walk_pass p from first turns c i h at w absent =
    let within = w.within in
    let holds = holds_complement p (take i p.trail) at.entry (drop (i + 1) p.trail) c h at.whole (false_next p c i at w.falsified) in
    record {
      within = omega (arith, within);
      chain = w.chain;
      names = w.names;
      falsified = passed_by (take i p.trail) at.entry c (false_next p c i at w.falsified) (ap not holds ∙ absent);
      present = λ above.
          let more = w.present above in
          let next = count_next p c i (present_level p.trail) at in
          let none : one_if (counts (present_level p.trail) c at.entry) ≡ 0 = by_tests (at.entry.level == present_level p.trail) (mentions c (variable at.entry.lit)) absent in
          omega (arith, more, next, none);
    }
  where
    by_tests : (a b : Bool) → not b ≡ true → one_if (a && b) ≡ 0
    by_tests a true n = absurd (let z : ⊥ = cc in z)
    by_tests true false n = refl
    by_tests false false n = refl

-- a literal that is resolved on was forced
walk_forced : (p : Propagation) (c : List ℤ) (i : ℕ) → IsPropagation p → (at : IsPlace p.trail i)
    → (0 < present_level p.trail → 0 < count_at (take i p.trail) (present_level p.trail) c) → IsSome at.entry.reason
walk_forced p c i h at more = elim (cases_Bool (present_level p.trail == 0)) [
  | inl y ↦ forced_at_zero p (take i p.trail) at.entry (drop (i + 1) p.trail) h (eqb-true (present_level p.trail) 0 y) at.whole
  | inr y ↦ by_reason at.entry.reason refl (more (above_zero (present_level p.trail) y))
]
  where
    by_reason : (r : Option ℕ) → at.entry.reason ≡ r → 0 < count_at (take i p.trail) (present_level p.trail) c → IsSome r
    by_reason None f some =
        let none = count_before p (take i p.trail) at.entry (drop (i + 1) p.trail) c h at.whole f in
        absurd (omega (arith, some, none))
    by_reason (Some k) f some = refl

-- a clause with more of the trail's variables counts no less
count_most : (trail : List Entry) (level : ℕ) (c d : List ℤ) → ((l : ℤ) → contains (literals_of trail) l ≡ true → mentions c (variable l) ≡ true → mentions d (variable l) ≡ true)
    → count_at trail level c ≤ count_at trail level d
count_most [] level c d h = omega arith
count_most (e ∷ trail) level c d h =
    let rest = count_most trail level c d (λ l m. h l (or_right (int_eq l e.lit) (contains (literals_of trail) l) m)) in
    let here = by_tests (e.level == level) (mentions c (variable e.lit)) (mentions d (variable e.lit))
    (h e.lit (or_left (int_eq e.lit e.lit) (contains (literals_of trail) e.lit) (same_true e.lit e.lit refl))) in
    let first = count_first e trail level c in
    let first' = count_first e trail level d in
    omega (arith, rest, here, first, first')
  where
    by_tests : (a b x : Bool) → (b ≡ true → x ≡ true) → one_if (a && b) ≤ one_if (a && x)
    by_tests false b x g = omega arith
    by_tests true false x g = omega arith
    by_tests true true x g = let same : one_if x ≡ 1 = ap one_if (g refl) in omega (arith, same)

-- a literal before an entry is on another variable
before_apart : (p : Propagation) (before : List Entry) (e : Entry) (after : List Entry) (l : ℤ) → IsPropagation p → p.trail ≡ before ++ e ∷ after
    → contains (literals_of before) l ≡ true → (variable l == variable e.lit) ≡ false
before_apart p before e after l h split m = false_from_ne_true (variable l == variable e.lit) (λ t.
    (let there : false_in before (complement l) ≡ true = subst (λ (k : ℤ). contains (literals_of before) k ≡ true) (sym (complement_twice l)) m in
    other_variable p before e after (complement l) h split there (variable_complement l ∙ eqb-true (variable l) (variable e.lit) t)))

-- one more turn
walk_resolve : (p : Propagation) (from : Premises) (first : ℕ) (turns : List Turn) (c : List ℤ) (i reason : ℕ) (d : List ℤ) → IsPropagation p → AreNamed p from
    → (at : IsPlace p.trail i) → IsWalk p from first turns c (i + 1) → mentions c (variable at.entry.lit) ≡ true
    → (0 < present_level p.trail → 0 < count_at (take i p.trail) (present_level p.trail) c)
    → at.entry.reason ≡ Some reason → clause_numbered p.clauses reason ≡ Some d
    → IsWalk p from first (turns ++ turn_on at.entry.lit reason ∷ []) (without c (complement at.entry.lit) ++ without d at.entry.lit) i
walk_resolve p from first turns c i reason d h names at w there more some found =
    let l = at.entry.lit in
    let before = take i p.trail in
    let after = drop (i + 1) p.trail in
    let f = false_next p c i at w.falsified in
    let s = step_back p before at.entry after reason c h at.whole some f in
    let both : Some s.other ≡ Some d = sym s.named ∙ found in
    let same : s.other ≡ d = cc both in
    let twice = complement_twice l in
    let held = holds_complement p before at.entry after c h at.whole f ∙ there in
    let against : contains d (complement (complement l)) ≡ true =
    subst (λ (k : ℤ). contains d k ≡ true) (sym twice) (subst (λ (x : List ℤ). contains x l ≡ true) same s.holds) in
    let chain = chain_more from first turns (turn_on l reason) c d w.chain (names reason d found) held against in
    let within = w.within in
    record {
      within = omega (arith, within);
      chain = subst (λ (k : ℤ). chain_clause from first (turns ++ turn_on l reason ∷ []) ≡ Some (without c (complement l) ++ without d k)) twice chain;
      names = names_more p first turns (turn_on l reason) w.names (rw (found) refl);
      falsified = subst (λ (x : List ℤ). are_false_in before (without c (complement l) ++ without x l) ≡ true) same s.falsified;
      present = λ above.
          let old = more above in
          let most = count_most before (present_level p.trail) c (without c (complement l) ++ without d l) (λ k m e.
          resolvent_mentions p before at.entry after reason c d (variable k) h at.whole some found f
          ∙ rw (e, before_apart p before at.entry after k h at.whole m) refl) in
          omega (arith, old, most);
    }

-- the end above level 0
walk_stop : (p : Propagation) (from : Premises) (first : ℕ) (turns : List Turn) (c : List ℤ) (i : ℕ) → IsPropagation p → (at : IsPlace p.trail i)
    → IsWalk p from first turns c (i + 1) → mentions c (variable at.entry.lit) ≡ true → 0 < present_level p.trail
    → count_at (take i p.trail) (present_level p.trail) c ≡ 0 → (level : ℕ) × IsLearnedFor p.trail c (complement at.entry.lit) level
walk_stop p from first turns c i h at w there above none =
    let u = complement at.entry.lit in
    let before = take i p.trail in
    let after = drop (i + 1) p.trail in
    let f = false_next p c i at w.falsified in
    let held = holds_complement p before at.entry after c h at.whole f ∙ there in
    let some = w.present above in
    let next = count_next p c i (present_level p.trail) at in
    let level = by_tests (at.entry.level == present_level p.trail) (mentions c (variable at.entry.lit)) (omega (arith, some, next, none)) in
    let stands : level_of p.trail (variable u) ≡ Some (present_level p.trail) =
    ap (level_of p.trail) (variable_complement at.entry.lit) ∙ at.level ∙ ap (λ (n : ℕ). Some n) (eqb-true at.entry.level (present_level p.trail) level) in
    let whole : are_false_in p.trail c ≡ true =
    subst (λ (t : List Entry). are_false_in t c ≡ true) (append_assoc before (at.entry ∷ []) after ∙ sym at.whole) (false_more (before ++ at.entry ∷ []) after c f) in
    learned_for p c u h above whole held (stands_there p.trail u (present_level p.trail) stands)
    (λ k m apart. count_alone p before at.entry after c k h at.whole f none m apart)
  where
    by_tests : (a b : Bool) → 0 < one_if (a && b) → a ≡ true
    by_tests true b lt = refl
    by_tests false b lt = absurd (omega (arith, lt))

-- the end at level 0
walk_done : (p : Propagation) (from : Premises) (first : ℕ) (turns : List Turn) (c : List ℤ) → IsWalk p from first turns c 0 → (present_level p.trail ≡ 0) × (c ≡ [])
walk_done p from first turns c w = (
  elim (cases_Bool (present_level p.trail == 0)) [
    | inl y ↦ eqb-true (present_level p.trail) 0 y
    | inr y ↦ absurd (let some = w.present (above_zero (present_level p.trail) y) in omega (arith, some))
  ],
  none_left c w.falsified,
)

-- all of it
pub walk_law : WalkLaw
walk_law = record { start = walk_start; pass = walk_pass; forced = walk_forced; resolve = walk_resolve; stop = walk_stop; done = walk_done }
