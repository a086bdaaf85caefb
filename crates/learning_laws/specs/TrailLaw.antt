-- What every trail of propagation keeps.
use Rattle.std.specs.Prelude.{◌≡◌, ℕ, ◌+◌, ◌<◌, ◌≤◌, not, ◌||◌, nat_lt, List, ◌∷◌, ◌++◌, ℤ, Some, None, IsTrue, is_some}
use Rattle.std.specs.List.{list_all}
use Rattle.lk_model.specs.Formulas.Literal.{variable, complement, contains, mentions, is_literal, is_distinct}
use Rattle.lk_model.specs.Formulas.Assignment.{makes_true}
use Rattle.watch_prop.specs.declared.entry.Entry.{Entry}
use Rattle.watch_prop.specs.Trail.{literals_of, true_in, entry_of, present_level, up_to_level, clause_numbered, forces}
use Rattle.watch_prop.specs.Propagation.{Propagation, IsPropagation, GoesOn, assigned, with_assigned}
use Rattle.lk_model.specs.Formulas.Units.{is_false}
use Rattle.learning_laws.specs.Learned.{are_false_in}

-- the trail up to a level is a front of it
pub record IsUpTo (trail : List Entry) (level : ℕ) : Type 0 where
  pub rest : List Entry
  pub whole : trail ≡ up_to_level level trail ++ rest

-- the clause that forced a literal: it contains this one, and each other one is the complement of an earlier literal
pub record IsForced (p : Propagation) (before : List Entry) (e : Entry) (reason : ℕ) : Type 0 where
  pub clause : List ℤ
  pub named : clause_numbered p.clauses reason ≡ Some clause
  pub force : IsTrue (forces clause before e.lit)

-- The next level begins with an assigned literal; each later literal was forced or is of a higher level.
pub record IsOpened (trail : List Entry) (level : ℕ) : Type 0 where
  pub entry : Entry
  pub after : List Entry
  pub whole : trail ≡ up_to_level level trail ++ entry ∷ after
  pub level_is : entry.level ≡ level + 1
  pub assigned : entry.reason ≡ None
  pub only : IsTrue (list_all (λ (d : Entry). is_some d.reason || nat_lt (level + 1) d.level) after)

-- Each front of a trail is one. No level is above the present one, and levels never fall. The trail up to a level is
-- its front, which ends at that level; it is the whole one from the present level on; and what is kept of it up to a
-- lower level is the trail up to that one. No literal stands twice or with its complement, and an entry is that of its
-- variable. A forced literal has its clause. Each level from 1 on begins with its only assigned literal. The true
-- literals are those of the assignment. A literal that is assigned opens a level and leaves what stands up to the ones
-- below, and so does what is forced.
pub record TrailLaw : Type 0 where
  pub first_part : (p : Propagation) (before after : List Entry) → IsPropagation p → p.trail ≡ before ++ after → IsPropagation (record p { trail = before })
  pub most : (p : Propagation) (before : List Entry) (e : Entry) (after : List Entry) → IsPropagation p → p.trail ≡ before ++ e ∷ after
      → e.level ≤ present_level p.trail
  pub rise : (p : Propagation) (before : List Entry) (d : Entry) (between : List Entry) (e : Entry) (after : List Entry) → IsPropagation p
      → p.trail ≡ before ++ d ∷ between ++ e ∷ after → d.level ≤ e.level
  pub up_to : (p : Propagation) (level : ℕ) → IsPropagation p → IsUpTo p.trail level
  pub reached : (p : Propagation) (level : ℕ) → IsPropagation p → level ≤ present_level p.trail → present_level (up_to_level level p.trail) ≡ level
  pub all : (p : Propagation) (level : ℕ) → IsPropagation p → present_level p.trail ≤ level → up_to_level level p.trail ≡ p.trail
  pub twice : (low level : ℕ) (trail : List Entry) → low ≤ level → up_to_level low (up_to_level level trail) ≡ up_to_level low trail
  pub once : (p : Propagation) → IsPropagation p → IsTrue (is_distinct (literals_of p.trail))
  pub one_sign : (p : Propagation) (l : ℤ) → IsPropagation p → IsTrue (contains (literals_of p.trail) l)
      → IsTrue (not (contains (literals_of p.trail) (complement l)))
  pub entry : (p : Propagation) (before : List Entry) (e : Entry) (after : List Entry) → IsPropagation p → p.trail ≡ before ++ e ∷ after
      → entry_of p.trail (variable e.lit) ≡ Some e
  pub reason : (p : Propagation) (before : List Entry) (e : Entry) (after : List Entry) (k : ℕ) → IsPropagation p → p.trail ≡ before ++ e ∷ after
      → e.reason ≡ Some k → IsForced p before e k
  pub opened : (p : Propagation) (level : ℕ) → IsPropagation p → level < present_level p.trail → IsOpened p.trail level
  pub literals : (p : Propagation) (l : ℤ) → IsPropagation p → IsTrue (contains (literals_of p.trail) l) → IsTrue (is_literal p.vars l)
  pub truth : (p : Propagation) (l : ℤ) → IsPropagation p → 0 < variable l → makes_true (assigned p) l ≡ true_in p.trail l
  pub falsity : (p : Propagation) (c : List ℤ) → IsPropagation p → IsTrue (list_all (is_literal p.vars) c) → is_false (assigned p) c ≡ are_false_in p.trail c
  pub unset : (p : Propagation) (v : ℕ) → is_some (assigned p v) ≡ mentions (literals_of p.trail) v
  pub assigned_level : (p : Propagation) (l : ℤ) → present_level (with_assigned p l).trail ≡ present_level p.trail + 1
  pub assigned_below : (p : Propagation) (l : ℤ) (level : ℕ) → level ≤ present_level p.trail → up_to_level level (with_assigned p l).trail ≡ up_to_level level p.trail
  pub forced_level : (p q : Propagation) → GoesOn p q → present_level q.trail ≡ present_level p.trail
  pub forced_below : (p q : Propagation) (level : ℕ) → GoesOn p q → level < present_level p.trail → up_to_level level q.trail ≡ up_to_level level p.trail
