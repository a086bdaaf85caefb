-- Trails over clauses: with one more entry, and with one more clause.
use Rattle.std.proofs.Common.{◌≡◌, ℕ, zero, suc, ◌<◌, ◌≤◌, Bool, true, false, cond, not, ◌&&◌, ◌||◌, ◌==◌, List, [], ◌∷◌, ◌++◌, refl, sym, ◌∙◌, ap, subst, arith, ℤ, Option, Some, None, is_some, find, length, option_map, nat_le, append_assoc, inl, inr, ◌+◌, IsNone, IfSome, IsSome}
use Rattle.std.specs.Prelude.{option_and_then}
use Rattle.std.specs.Option.{option_map_or}
use Rattle.std.specs.List.{list_all}
use Rattle.std.specs.Ordering.{int_eq}
use Rattle.std.proofs.lemmas.Bool.{leb-true, eqb-true, eq-eqb, cases_Bool, false_from_ne_true, not-true}
use Rattle.std.proofs.lemmas.List.{append-nil}
use Rattle.std.proofs.lemmas.List.Folds.{list_all-append}
use Rattle.lk_model.specs.Lists.{with_earlier, among, is_empty}
use Rattle.lk_model.specs.Formulas.Literal.{variable, contains, is_literal, is_clause, is_positive}
use Rattle.lk_model.proofs.Booleans.{and_true, or_left, or_right}
use Rattle.lk_model.proofs.ListTests.{all_weaker, all_more}
use Rattle.lk_model.proofs.Literals.{one_variable}
use Rattle.watch_prop.specs.declared.entry.Entry.{Entry}
use Rattle.watch_prop.specs.declared.entry.NumberedClause.{NumberedClause}
use Rattle.watch_prop.specs.Trail.{literals_of, reason_of, true_in, false_in, entry_of, level_of, present_level, clause_numbered, forces, has_reason, may_come, may_follow, is_path, is_trail, reason_of}
use Rattle.watch_prop.specs.Propagation.{Propagation, IsPropagation, GoesOn, numbers_of, are_distinct}
use Rattle.watch_prop.specs.Linked.{clause_at_place}
use Rattle.watch_prop.proofs.Paths.{with_earlier_more, last_level, path_levels}
use Rattle.watch_prop.proofs.Lists.{distinct_push}
use Rattle.watch_prop.proofs.Truths.{same_true}

pub trail_path : (vars : ℕ) (clauses : List NumberedClause) (trail : List Entry) → is_trail vars clauses trail ≡ true → is_path vars trail ≡ true
unfolding is_trail is_path
trail_path vars clauses trail h =
    all_weaker (λ (earlier, e). may_follow vars clauses earlier e) (λ (earlier, e). may_come vars earlier e)
    (λ q t. (and_true (may_come vars q.0 q.1) (has_reason clauses q.0 q.1) t).0) (with_earlier [] trail) h

pub trail_more : (vars : ℕ) (clauses : List NumberedClause) (trail : List Entry) (e : Entry)
    → is_trail vars clauses (trail ++ e ∷ []) ≡ (is_trail vars clauses trail && may_follow vars clauses trail e)
unfolding is_trail
trail_more vars clauses trail e =
    ap (list_all (λ (earlier, e). may_follow vars clauses earlier e)) (with_earlier_more [] trail e)
    ∙ list_all-append (λ (earlier, e). may_follow vars clauses earlier e) (with_earlier [] trail) ((trail, e) ∷ [])
    ∙ ap (λ b. is_trail vars clauses trail && b) (and_true-right (may_follow vars clauses trail e))
  where
    and_true-right : (b : Bool) → (b && true) ≡ b
    and_true-right true = refl
    and_true-right false = refl

-- ONE MORE CLAUSE

numbered_more : (clauses : List NumberedClause) (d : NumberedClause) (k : ℕ) (c : List ℤ) → clause_numbered clauses k ≡ Some c → clause_numbered (clauses ++ d ∷ []) k ≡ Some c
numbered_more [] d k c e = absurd (let f : ⊥ = cc in f)
numbered_more (h ∷ clauses) d k c e = at (h.number == k) (numbered_more clauses d k c) e
  where
    at : (b : Bool) → (clause_numbered clauses k ≡ Some c → clause_numbered (clauses ++ d ∷ []) k ≡ Some c)
        → option_map (λ (c : NumberedClause). c.lits) (cond b (Some h) (find (λ (c : NumberedClause). c.number == k) clauses)) ≡ Some c
        → option_map (λ (c : NumberedClause). c.lits) (cond b (Some h) (find (λ (c : NumberedClause). c.number == k) (clauses ++ d ∷ []))) ≡ Some c
    at true more e = e
    at false more e = more e

reason_more : (clauses : List NumberedClause) (d : NumberedClause) (earlier : List Entry) (e : Entry) → has_reason clauses earlier e ≡ true → has_reason (clauses ++ d ∷ []) earlier e ≡ true
reason_more clauses d earlier e h = at e.reason h
  where
    at_clause : (k : ℕ) (o : Option (List ℤ)) → clause_numbered clauses k ≡ o → option_map_or (λ c. forces c earlier e.lit) o false ≡ true
        → option_map_or (λ c. forces c earlier e.lit) (clause_numbered (clauses ++ d ∷ []) k) false ≡ true
    at_clause k None f h = absurd (let z : ⊥ = cc in z)
    at_clause k (Some c) f h = rw (numbered_more clauses d k c f) h

    at : (r : Option ℕ) → option_map_or (λ k. option_map_or (λ c. forces c earlier e.lit) (clause_numbered clauses k) false) r true ≡ true
        → option_map_or (λ k. option_map_or (λ c. forces c earlier e.lit) (clause_numbered (clauses ++ d ∷ []) k) false) r true ≡ true
    at None h = refl
    at (Some k) h = at_clause k (clause_numbered clauses k) refl h

follow_more : (vars : ℕ) (clauses : List NumberedClause) (d : NumberedClause) (earlier : List Entry) (e : Entry) → may_follow vars clauses earlier e ≡ true → may_follow vars (clauses ++ d ∷ []) earlier e ≡ true
follow_more vars clauses d earlier e h =
    let a = and_true (may_come vars earlier e) (has_reason clauses earlier e) h in
    rw (a.0) (reason_more clauses d earlier e a.1)

pub trail_of_more : (vars : ℕ) (clauses : List NumberedClause) (d : NumberedClause) (trail : List Entry) → is_trail vars clauses trail ≡ true → is_trail vars (clauses ++ d ∷ []) trail ≡ true
unfolding is_trail
trail_of_more vars clauses d trail h =
    all_weaker (λ (earlier, e). may_follow vars clauses earlier e) (λ (earlier, e). may_follow vars (clauses ++ d ∷ []) earlier e)
    (λ q. follow_more vars clauses d q.0 q.1) (with_earlier [] trail) h

pub numbers_more : (clauses : List NumberedClause) (d : NumberedClause) → are_distinct (numbers_of clauses) ≡ true → not (among (numbers_of clauses) d.number) ≡ true
    → are_distinct (numbers_of (clauses ++ d ∷ [])) ≡ true
numbers_more clauses d h f = rw (numbers_append clauses) (distinct_push (numbers_of clauses) d.number h (not-true (among (numbers_of clauses) d.number) f))
  where
    numbers_append : (clauses : List NumberedClause) → numbers_of (clauses ++ d ∷ []) ≡ numbers_of clauses ++ d.number ∷ []
    numbers_append [] = refl
    numbers_append (c ∷ clauses) = ap (λ ns. c.number ∷ ns) (numbers_append clauses)

-- a propagation that holds one more clause
pub holds_more : (p : Propagation) (clauses : List NumberedClause) (d : NumberedClause) → IsPropagation p → (not (is_empty d.lits) && is_clause p.vars d.lits) ≡ true
    → not (among (numbers_of p.clauses) d.number) ≡ true → clauses ≡ p.clauses ++ d ∷ [] → IsPropagation (record p { clauses = clauses })
holds_more p clauses d h may fresh e =
    subst (λ (cs : List NumberedClause). IsPropagation (record p { clauses = cs })) (sym e) (record {
      vars = h.vars;
      clauses = all_more (λ (c : NumberedClause). not (is_empty c.lits) && is_clause p.vars c.lits) p.clauses d h.clauses may;
      numbers = numbers_more p.clauses d h.numbers fresh;
      trail = trail_of_more p.vars p.clauses d p.trail h.trail;
    })

-- THE CLAUSE AT A PLACE

number_among : (clauses : List NumberedClause) (place : ℕ) → place < length clauses → among (numbers_of clauses) (clause_at_place clauses place).number ≡ true
number_among [] place lt = absurd (omega arith)
number_among (c ∷ clauses) zero lt = or_left (c.number == c.number) (among (numbers_of clauses) c.number) (eq-eqb c.number c.number refl)
number_among (c ∷ clauses) (suc place) lt =
    or_right (c.number == (clause_at_place clauses place).number) (among (numbers_of clauses) (clause_at_place clauses place).number) (number_among clauses place (omega (arith, lt)))

-- it is found by its number
pub found_by_number : (clauses : List NumberedClause) (place : ℕ) → are_distinct (numbers_of clauses) ≡ true → place < length clauses
    → clause_numbered clauses (clause_at_place clauses place).number ≡ Some (clause_at_place clauses place).lits
found_by_number [] place d lt = absurd (omega arith)
found_by_number (c ∷ clauses) zero d lt = rw (eq-eqb c.number c.number refl) refl
found_by_number (c ∷ clauses) (suc place) d lt =
    let both = and_true (not (among (numbers_of clauses) c.number)) (are_distinct (numbers_of clauses)) d in
    let there = number_among clauses place (omega (arith, lt)) in
    let n = (clause_at_place clauses place).number in
    let apart : (c.number == n) ≡ false = false_from_ne_true (c.number == n)
    (λ e. (let f : among (numbers_of clauses) c.number ≡ true = subst (λ (k : ℕ). among (numbers_of clauses) k ≡ true) (sym (eqb-true c.number n e)) there in
    let g : true ≡ false = sym f ∙ not-true (among (numbers_of clauses) c.number) both.0 in let z : ⊥ = cc in z)) in
    rw apart (found_by_number clauses place both.1 (omega (arith, lt)))

-- A FORCED LITERAL

pub record IsEntryOf (trail : List Entry) (v : ℕ) (e : Entry) : Type 0 where
  pub there : contains (literals_of trail) e.lit ≡ true
  pub on : variable e.lit ≡ v

pub entry_there : (trail : List Entry) (v : ℕ) (e : Entry) → entry_of trail v ≡ Some e → IsEntryOf trail v e
entry_there [] v e f = absurd (let z : ⊥ = cc in z)
entry_there (d ∷ trail) v e f = elim (cases_Bool (variable d.lit == v)) [
  | inl y ↦
      let same : d ≡ e = cc (sym (ap (λ (b : Bool). cond b (Some d) (entry_of trail v)) y) ∙ f) in
      record {
        there = or_left (int_eq e.lit d.lit) (contains (literals_of trail) e.lit) (same_true e.lit d.lit (ap (λ (x : Entry). x.lit) (sym same)));
        on = ap (λ (x : Entry). variable x.lit) (sym same) ∙ eqb-true (variable d.lit) v y;
      }
  | inr y ↦
      let r = entry_there trail v e (sym (ap (λ (b : Bool). cond b (Some d) (entry_of trail v)) y) ∙ f) in
      record { there = or_right (int_eq e.lit d.lit) (contains (literals_of trail) e.lit) r.there; on = r.on }
]

-- neither true nor false is unset
pub unset_entry_of : (trail : List Entry) (l : ℤ) → true_in trail l ≡ false → false_in trail l ≡ false → entry_of trail (variable l) ≡ None
unset_entry_of trail l t f = at (entry_of trail (variable l)) refl
  where
    at : (o : Option Entry) → entry_of trail (variable l) ≡ o → o ≡ None
    at None e = refl
    at (Some d) e =
        let r = entry_there trail (variable l) d e in
        elim (one_variable d.lit l r.on) [
          | inl s ↦ (let z : true ≡ false = sym (subst (λ (k : ℤ). contains (literals_of trail) k ≡ true) s r.there) ∙ t in absurd (let y : ⊥ = cc in y))
          | inr s ↦ (let z : true ≡ false = sym (subst (λ (k : ℤ). contains (literals_of trail) k ≡ true) s r.there) ∙ f in absurd (let y : ⊥ = cc in y))
        ]

-- A literal may follow that the clause at a place contains, in which every other one is false.
pub may_force : (vars : ℕ) (clauses : List NumberedClause) (trail : List Entry) (place : ℕ) (e : Entry) → are_distinct (numbers_of clauses) ≡ true → place < length clauses
    → is_literal vars e.lit ≡ true → true_in trail e.lit ≡ false → false_in trail e.lit ≡ false
    → contains (clause_at_place clauses place).lits e.lit ≡ true
    → list_all (λ k. int_eq k e.lit || false_in trail k) (clause_at_place clauses place).lits ≡ true
    → e.level ≡ present_level trail → e.reason ≡ Some (clause_at_place clauses place).number → may_follow vars clauses trail e ≡ true
may_force vars clauses trail place e d lt lit t f holds others level reason =
    rw (lit, unset_entry_of trail e.lit t f, reason, eq-eqb e.level (present_level trail) level, found_by_number clauses place d lt, holds, others) refl

-- no variable has a level above the present one
pub level_within : (p : Propagation) (v level : ℕ) → IsPropagation p → level_of p.trail v ≡ Some level → level ≤ present_level p.trail
level_within p v level h e = among_them p.trail (path_levels p.vars p.trail (trail_path p.vars p.clauses p.trail h.trail)) e
  where
    among_them : (es : List Entry) → list_all (λ (e : Entry). nat_le e.level (present_level p.trail)) es ≡ true → level_of es v ≡ Some level → level ≤ present_level p.trail
    among_them [] a e = absurd (let f : ⊥ = cc in f)
    among_them (d ∷ es) a e =
        let b = and_true (nat_le d.level (present_level p.trail)) (list_all (λ (e : Entry). nat_le e.level (present_level p.trail)) es) a in
        at (variable d.lit == v) b.0 e (among_them es b.1)
      where
        at : (t : Bool) → nat_le d.level (present_level p.trail) ≡ true → option_map (λ (e : Entry). e.level) (cond t (Some d) (entry_of es v)) ≡ Some level
            → (level_of es v ≡ Some level → level ≤ present_level p.trail) → level ≤ present_level p.trail
        at true le e rest = (let same : d.level ≡ level = cc in let low = leb-true d.level (present_level p.trail) le in omega (arith, same, low))
        at false le e rest = rest e

-- PROPAGATION

-- a propagation with one more entry
pub propagation_more : (p : Propagation) (e : Entry) → IsPropagation p → may_follow p.vars p.clauses p.trail e ≡ true
    → IsPropagation (record { vars = p.vars; clauses = p.clauses; trail = p.trail ++ e ∷ [] })
propagation_more p e h may =
    record { vars = h.vars; clauses = h.clauses; numbers = h.numbers; trail = trail_more p.vars p.clauses p.trail e ∙ rw (h.trail, may) refl }

pub goes_on_start : (p : Propagation) → GoesOn p p
goes_on_start p = record { forced = []; vars = refl; clauses = refl; trail = sym (append-nil p.trail); levels = refl }

pub goes_on_one : (p : Propagation) (e : Entry) (k : ℕ) → e.level ≡ present_level p.trail → e.reason ≡ Some k
    → GoesOn p (record { vars = p.vars; clauses = p.clauses; trail = p.trail ++ e ∷ [] })
goes_on_one p e k level reason = record {
  forced = e ∷ [];
  vars = refl;
  clauses = refl;
  trail = refl;
  levels = rw (eq-eqb e.level (present_level p.trail) level, reason) refl;
}

-- what was forced is of the level before
pub same_level : (trail forced : List Entry) (level : ℕ) → present_level trail ≡ level → list_all (λ (e : Entry). e.level == level && is_some e.reason) forced ≡ true
    → present_level (trail ++ forced) ≡ level
same_level trail [] level n h = rw (append-nil trail) n
same_level trail (e ∷ forced) level n h =
    let both = and_true (e.level == level && is_some e.reason) _ h in
    let here = eqb-true e.level level (and_true (e.level == level) (is_some e.reason) both.0).0 in
    subst (λ (t : List Entry). present_level t ≡ level) (append_assoc trail (e ∷ []) forced) (same_level (trail ++ e ∷ []) forced level (last_level trail e ∙ here) both.1)

pub goes_on_then : (p q r : Propagation) → GoesOn p q → GoesOn q r → GoesOn p r
goes_on_then p q r g h =
    let level : present_level q.trail ≡ present_level p.trail = ap present_level g.trail ∙ same_level p.trail g.forced (present_level p.trail) refl g.levels in
    record {
      forced = g.forced ++ h.forced;
      vars = h.vars ∙ g.vars;
      clauses = h.clauses ∙ g.clauses;
      trail = h.trail ∙ ap (λ (t : List Entry). t ++ h.forced) g.trail ∙ append_assoc p.trail g.forced h.forced;
      levels = list_all-append (λ (e : Entry). e.level == present_level p.trail && is_some e.reason) g.forced h.forced
          ∙ rw (g.levels) (subst (λ (n : ℕ). list_all (λ (e : Entry). e.level == n && is_some e.reason) h.forced ≡ true) level h.levels);
    }

-- BEGINNINGS, AND ASSIGNED LITERALS

-- what may follow may come
pub may_come_of : (vars : ℕ) (clauses : List NumberedClause) (trail : List Entry) (e : Entry) → may_follow vars clauses trail e ≡ true → may_come vars trail e ≡ true
may_come_of vars clauses trail e h = (and_true (may_come vars trail e) _ h).0

-- a beginning of a trail is one
pub trail_prefix : (vars : ℕ) (clauses : List NumberedClause) (trail more : List Entry) → is_trail vars clauses (trail ++ more) ≡ true → is_trail vars clauses trail ≡ true
trail_prefix vars clauses trail [] h = subst (λ (t : List Entry). is_trail vars clauses t ≡ true) (append-nil trail) h
trail_prefix vars clauses trail (e ∷ more) h =
    let longer = trail_prefix vars clauses (trail ++ e ∷ []) more (subst (λ (t : List Entry). is_trail vars clauses t ≡ true) (sym (append_assoc trail (e ∷ []) more)) h) in
    (and_true (is_trail vars clauses trail) (may_follow vars clauses trail e) (sym (trail_more vars clauses trail e) ∙ longer)).0

-- what comes next may follow it
pub first_follows : (vars : ℕ) (clauses : List NumberedClause) (trail : List Entry) (e : Entry) (more : List Entry) → is_trail vars clauses (trail ++ e ∷ more) ≡ true → may_follow vars clauses trail e ≡ true
first_follows vars clauses trail e more h =
    let longer = trail_prefix vars clauses (trail ++ e ∷ []) more (subst (λ (t : List Entry). is_trail vars clauses t ≡ true) (sym (append_assoc trail (e ∷ []) more)) h) in
    (and_true (is_trail vars clauses trail) (may_follow vars clauses trail e) (sym (trail_more vars clauses trail e) ∙ longer)).1

-- an unset literal may open a level
pub may_open : (vars : ℕ) (clauses : List NumberedClause) (trail : List Entry) (e : Entry) → is_literal vars e.lit ≡ true → entry_of trail (variable e.lit) ≡ None
    → e.level ≡ present_level trail + 1 → e.reason ≡ None → may_follow vars clauses trail e ≡ true
may_open vars clauses trail e lit none n reason = rw (lit, none, reason, eq-eqb e.level (present_level trail + 1) n) refl

-- a variable without a value has no entry
pub unset_none : (o : Option Entry) → IsNone (option_map (λ (e : Entry). is_positive e.lit) o) → o ≡ None
unset_none None h = refl
unset_none (Some e) h = absurd (let f : ⊥ = cc in f)

-- THE CLAUSE OF A REASON

reason_among : (vars : ℕ) (clauses : List NumberedClause) (earlier rest : List Entry) (v : ℕ) (r : Option ℕ)
    → list_all (λ (before, e). may_follow vars clauses before e) (with_earlier earlier rest) ≡ true → r ≡ reason_of rest v
    → IfSome r (λ k. IsSome (clause_numbered clauses k))
reason_among vars clauses earlier [] v r h e = subst (λ (o : Option ℕ). IfSome o (λ k. IsSome (clause_numbered clauses k))) (sym e) tt
reason_among vars clauses earlier (d ∷ rest) v r h e =
    let both = and_true (may_follow vars clauses earlier d) _ h in
    at (variable d.lit == v) e (and_true (may_come vars earlier d) (has_reason clauses earlier d) both.0).1
    (reason_among vars clauses (earlier ++ d ∷ []) rest v r both.1)
  where
    held : (k : ℕ) (o : Option (List ℤ)) → option_map_or (λ c. forces c earlier d.lit) o false ≡ true → IsSome o
    held k None h = absurd (let z : ⊥ = cc in z)
    held k (Some c) h = refl

    its : (o : Option ℕ) → option_map_or (λ k. option_map_or (λ c. forces c earlier d.lit) (clause_numbered clauses k) false) o true ≡ true
        → IfSome o (λ k. IsSome (clause_numbered clauses k))
    its None h = tt
    its (Some k) h = held k (clause_numbered clauses k) h

    at : (b : Bool) → r ≡ option_and_then (λ (x : Entry). x.reason) (cond b (Some d) (entry_of rest v)) → has_reason clauses earlier d ≡ true
        → (r ≡ reason_of rest v → IfSome r (λ k. IsSome (clause_numbered clauses k))) → IfSome r (λ k. IsSome (clause_numbered clauses k))
    at true e has later = subst (λ (o : Option ℕ). IfSome o (λ k. IsSome (clause_numbered clauses k))) (sym e) (its d.reason has)
    at false e has later = later e

-- a clause that is a reason is held
pub reason_held : (p : Propagation) (v : ℕ) (r : Option ℕ) → IsPropagation p → r ≡ reason_of p.trail v → IfSome r (λ k. IsSome (clause_numbered p.clauses k))
unfolding is_trail
reason_held p v r h e = reason_among p.vars p.clauses [] p.trail v r h.trail e
