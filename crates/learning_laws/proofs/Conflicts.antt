-- What a false clause contains of the present level, and the level that a learned one is learned for.
use Rattle.std.proofs.Common.{◌≡◌, ◌≢◌, ◌∙◌, ℕ, ◌-◌, ◌<◌, ◌≤◌, ◌==◌, ◌∷◌, [], Bool, true, false, not, ◌&&◌, List, ℤ, Option, Some, None, nat_le, refl, sym, ap, subst, arith, inl, inr}
use Rattle.std.specs.Option.{option_map_or}
use Rattle.std.specs.List.{list_all, list_any}
use Rattle.std.specs.Ordering.{int_eq}
use Rattle.std.proofs.lemmas.Bool.{cases_Bool, eq-eqb, le-leb, leb-true, leb-false}
use Rattle.std.proofs.lemmas.List.{append-nil}
use Rattle.lk_model.specs.Lists.{is_empty}
use Rattle.lk_model.specs.Formulas.Literal.{variable, complement, contains, is_literal, is_clause, is_distinct}
use Rattle.lk_model.specs.Formulas.Assignment.{makes_true}
use Rattle.lk_model.proofs.Booleans.{and_true, or_true, or_false, or_left, or_right}
use Rattle.lk_model.proofs.Variables.{literal_passing}
use Rattle.lk_model.proofs.ListTests.{passes_each}
use Rattle.lk_model.proofs.Founds.{all_literals}
use Rattle.lk_model.proofs.Ranks.{literal_bounds}
use Rattle.lk_model.proofs.Literals.{int_self, same_int, variable_complement}
use Rattle.watch_prop.specs.declared.entry.Entry.{Entry}
use Rattle.watch_prop.specs.declared.entry.Propagated.TheVariants.{Conflict}
use Rattle.watch_prop.specs.Trail.{false_in, assignment_along, level_of, present_level, up_to_level, clause_numbered}
use Rattle.watch_prop.specs.Propagation.{IsAnswered, Propagation, IsPropagation, assigned}
use Rattle.lk_model.specs.Formulas.Units.{is_false}
use Rattle.watch_prop.proofs.Truths.{same_true}
use Rattle.watch_prop.proofs.Along.{makes_true_along}
use Rattle.watch_prop.proofs.Units.{each_numbered}
use Rattle.learning_laws.specs.Learned.{stands_at, stands_up_to, are_false_in, IsQuietBelow, IsLearnedFor}
use Rattle.learning_laws.proofs.Levels.{path_of, false_up_to}
use Rattle.learning_laws.proofs.News.{is_quiet_clause, inside_false}
use Rattle.learning_laws.proofs.Splits.{HasLevel, level_before}
use Rattle.learning_laws.proofs.Tests.{never_both, not_both}

-- the literals of a clause that is held are over the variables, and none stands twice
pub clause_of_held : (p : Propagation) (k : ℕ) (c : List ℤ) → IsPropagation p → clause_numbered p.clauses k ≡ Some c → is_clause p.vars c ≡ true
clause_of_held p k c h found =
    (and_true (not (is_empty c)) (is_clause p.vars c) (each_numbered (λ c. not (is_empty c) && is_clause p.vars c) p.clauses k c h.clauses found)).1

-- a held clause that is false by the assignment is false by the trail
pub held_false : (p : Propagation) (k : ℕ) (c : List ℤ) → IsPropagation p → clause_numbered p.clauses k ≡ Some c → is_false (assigned p) c ≡ true → are_false_in p.trail c ≡ true
held_false p k c h found f =
    let lits = (and_true (list_all (is_literal p.vars) c) (is_distinct c) (clause_of_held p k c h found)).0 in
    all_literals (false_in p.trail) c (λ l m.
    (let bounds = literal_bounds p.vars l (passes_each (is_literal p.vars) c l lits m) in
    let low : 0 < variable (complement l) = omega (arith, bounds.0, variable_complement l) in
    sym (makes_true_along p.vars p.trail (complement l) (path_of p h) low) ∙ passes_each (λ l. makes_true (assigned p) (complement l)) c l f m))

-- each false literal has a level
pub level_of_false : (p : Propagation) (l : ℤ) → IsPropagation p → false_in p.trail l ≡ true → HasLevel p.trail l (present_level p.trail)
level_of_false p l h f = level_before p p.trail [] l h (sym (append-nil p.trail)) f

-- what has a level stands up to a higher one
pub up_to_higher : (trail : List Entry) (l : ℤ) (level most : ℕ) → level_of trail (variable l) ≡ Some level → level ≤ most → stands_up_to trail most l ≡ true
up_to_higher trail l level most is le = ap (λ (o : Option ℕ). option_map_or (λ k. nat_le k most) o false) is ∙ le-leb level most le

-- what stands up to a level stands up to a higher one
up_to_more : (trail : List Entry) (l : ℤ) (low most : ℕ) → stands_up_to trail low l ≡ true → low ≤ most → stands_up_to trail most l ≡ true
up_to_more trail l low most h le = at_level (level_of trail (variable l)) h
  where
    at_level : (o : Option ℕ) → option_map_or (λ k. nat_le k low) o false ≡ true → option_map_or (λ k. nat_le k most) o false ≡ true
    at_level None h = h
    at_level (Some k) h = let under = leb-true k low h in le-leb k most (omega (arith, under, le))

-- what has a level stands at it
pub stands_there : (trail : List Entry) (l : ℤ) (level : ℕ) → level_of trail (variable l) ≡ Some level → stands_at trail level l ≡ true
stands_there trail l level is = ap (λ (o : Option ℕ). option_map_or (λ k. k == level) o false) is ∙ eq-eqb level level refl

-- none of a clause passes where the test of it all fails
pub none_literal : (t : ℤ → Bool) (c : List ℤ) (l : ℤ) → list_any t c ≡ false → contains c l ≡ true → t l ≡ false
none_literal t [] l e m = absurd (let f : ⊥ = cc in f)
none_literal t (k ∷ c) l e m =
    let both = or_false (t k) (list_any t c) e in
    elim (or_true (int_eq l k) (contains c l) m) [
      | inl here ↦ ap t (same_int l k here) ∙ both.0
      | inr later ↦ none_literal t c l both.1 later
    ]

-- A CONFLICT

-- a conflict is a held clause that is false
pub conflict_clause : (p : Propagation) (k : ℕ) → IsAnswered p (Conflict k) → (c : List ℤ) × (clause_numbered p.clauses k ≡ Some c) × (is_false (assigned p) c ≡ true)
conflict_clause p k h = at_clause (clause_numbered p.clauses k) refl h
  where
    at_clause : (o : Option (List ℤ)) → clause_numbered p.clauses k ≡ o → option_map_or (is_false (assigned p)) o false ≡ true
        → (c : List ℤ) × (clause_numbered p.clauses k ≡ Some c) × (is_false (assigned p) c ≡ true)
    at_clause None f h = absurd (let z : ⊥ = cc in z)
    at_clause (Some c) f h = (c, f, h)

-- above level 0 a held clause that is false has a literal of the present level
pub conflict_present : (p : Propagation) (k : ℕ) (c : List ℤ) → IsPropagation p → IsQuietBelow p → 0 < present_level p.trail → clause_numbered p.clauses k ≡ Some c
    → is_false (assigned p) c ≡ true → (l : ℤ) × (contains c l ≡ true) × (stands_at p.trail (present_level p.trail) l ≡ true)
conflict_present p k c h q above found f = elim (cases_Bool (list_any (stands_at p.trail (present_level p.trail)) c)) [
  | inl y ↦ literal_passing (stands_at p.trail (present_level p.trail)) c y
  | inr y ↦ absurd (contradiction y)
]
  where
    low_level : ℕ
    low_level = present_level p.trail - 1

    quiet_there : is_quiet_clause (assignment_along (up_to_level low_level p.trail)) c ≡ true
    quiet_there =
        each_numbered (is_quiet_clause (assignment_along (up_to_level low_level p.trail))) p.clauses k c (q.quiet low_level (omega (arith, above))) found

    contradiction : list_any (stands_at p.trail (present_level p.trail)) c ≡ false → ⊥
    contradiction none = inside_false p low_level c h (clause_of_held p k c h found)
        (λ l m.
        let false_l = passes_each (false_in p.trail) c l (held_false p k c h found f) m in
        let x = level_of_false p l h false_l in
        let within = x.within in
        let apart : x.level ≢ present_level p.trail = λ e.
        never_both (stands_at p.trail (present_level p.trail) l)
        (stands_there p.trail l (present_level p.trail) (x.is ∙ ap (λ (n : ℕ). Some n) e)) (none_literal (stands_at p.trail (present_level p.trail)) c l none m) in
        false_up_to p low_level l h false_l (up_to_higher p.trail l x.level low_level x.is (omega (arith, within, apart, above))))
        quiet_there

-- THE LEVEL THAT A CLAUSE IS LEARNED FOR

-- the highest level of the literals of a list but one, 0 where there is none
record IsHighest (trail : List Entry) (u : ℤ) (ls : List ℤ) : Type 0 where
  level : ℕ
  below : level < present_level trail
  others : (k : ℤ) → contains ls k ≡ true → k ≢ u → stands_up_to trail level k ≡ true
  reached : 0 < level → (k : ℤ) × (contains ls k ≡ true) × (stands_at trail level k ≡ true)

-- each literal but one stands below the present level
abbrev AreLower : List Entry → ℤ → List ℤ → Type 0
AreLower trail u ls = (k : ℤ) → contains ls k ≡ true → k ≢ u → (level : ℕ) × (level_of trail (variable k) ≡ Some level) × (level < present_level trail)

-- there is a highest one
highest : (trail : List Entry) (u : ℤ) (ls : List ℤ) → 0 < present_level trail → AreLower trail u ls → IsHighest trail u ls
highest trail u [] above lower = record {
  level = 0;
  below = above;
  others = λ k m apart. absurd (let f : ⊥ = cc in f);
  reached = λ lt. absurd (omega (arith, lt));
}
highest trail u (l ∷ ls) above lower =
    let r = highest trail u ls above (λ k m apart. lower k (or_right (int_eq k l) (contains ls k) m) apart) in
    elim (cases_Bool (int_eq l u)) [
      | inl y ↦ keeps r (λ apart. absurd (apart (same_int l u y)))
      | inr y ↦
          let x = lower l (or_left (int_eq l l) (contains ls l) (int_self l)) (λ e. never_both (int_eq l u) (same_true l u e) y) in
          elim (cases_Bool (nat_le x.0 r.level)) [
            | inl z ↦ keeps r (λ apart. up_to_higher trail l x.0 r.level x.1 (leb-true x.0 r.level z))
            | inr z ↦ rises r x (leb-false x.0 r.level z)
          ]
    ]
  where
    keeps : (r : IsHighest trail u ls) → (l ≢ u → stands_up_to trail r.level l ≡ true) → IsHighest trail u (l ∷ ls)
    keeps r first = record {
      level = r.level;
      below = r.below;
      others = λ k m apart. elim (or_true (int_eq k l) (contains ls k) m) [
        | inl here ↦
            let same = same_int k l here in
            subst (λ (x : ℤ). stands_up_to trail r.level x ≡ true) (sym same) (first (λ e. apart (same ∙ e)))
        | inr later ↦ r.others k later apart
      ];
      reached = λ lt. (let w = r.reached lt in (w.0, or_right (int_eq w.0 l) (contains ls w.0) w.1, w.2));
    }

    rises : (r : IsHighest trail u ls) → (x : (level : ℕ) × (level_of trail (variable l) ≡ Some level) × (level < present_level trail)) → r.level < x.0 → IsHighest trail u (l ∷ ls)
    rises r x lt = record {
      level = x.0;
      below = x.2;
      others = λ k m apart. elim (or_true (int_eq k l) (contains ls k) m) [
        | inl here ↦ subst (λ (y : ℤ). stands_up_to trail x.0 y ≡ true) (sym (same_int k l here)) (up_to_higher trail l x.0 x.0 x.1 (omega arith))
        | inr later ↦ up_to_more trail k r.level x.0 (r.others k later apart) (omega (arith, lt))
      ];
      reached = λ positive. (l, or_left (int_eq l l) (contains ls l) (int_self l), stands_there trail l x.0 x.1);
    }

-- so a false clause with one literal of the present level is learned for a level
pub learned_for : (p : Propagation) (c : List ℤ) (u : ℤ) → IsPropagation p → 0 < present_level p.trail → are_false_in p.trail c ≡ true → contains c u ≡ true
    → stands_at p.trail (present_level p.trail) u ≡ true
    → ((k : ℤ) → contains c k ≡ true → k ≢ u → not (stands_at p.trail (present_level p.trail) k) ≡ true) → (level : ℕ) × IsLearnedFor p.trail c u level
learned_for p c u h above f there present others =
    let r = highest p.trail u c above (λ k m apart.
    (let x = level_of_false p k h (passes_each (false_in p.trail) c k f m) in
    let within = x.within in
    let differs : x.level ≢ present_level p.trail = λ e.
    not_both (stands_at p.trail (present_level p.trail) k) (others k m apart) (stands_there p.trail k (present_level p.trail) (x.is ∙ ap (λ (n : ℕ). Some n) e)) in
    (x.level, x.is, omega (arith, within, differs)))) in (
      r.level,
      record { falsified = f; there = there; present = present; below = r.below; others = r.others; reached = r.reached },
    )
