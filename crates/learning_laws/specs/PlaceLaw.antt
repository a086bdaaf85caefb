-- A trail place by place, as a walk back along it reads and counts.
use Rattle.std.specs.Prelude.{◌≡◌, ◌≢◌, ℕ, ◌+◌, ◌<◌, ◌≤◌, ◌==◌, not, cond, ◌&&◌, ◌||◌, List, [], ◌∷◌, ◌++◌, take, drop, filter, length, slice_index_or, ℤ, Some, None, IsTrue}
use Rattle.lk_model.specs.Formulas.Literal.{variable, complement, contains, mentions}
use Rattle.lk_model.specs.Chains.Chain.{without}
use Rattle.watch_prop.specs.declared.entry.Entry.{Entry}
use Rattle.watch_prop.specs.Trail.{literals_of, false_in, level_of, reason_of, present_level, clause_numbered}
use Rattle.watch_prop.specs.Propagation.{Propagation, IsPropagation}
use Rattle.learning_laws.specs.Learned.{stands_at, are_false_in}

-- the entry at a place: its literal stands there, and its level and reason are those of its variable
pub record IsPlace (trail : List Entry) (i : ℕ) : Type 0 where
  pub entry : Entry
  pub whole : trail ≡ take i trail ++ entry ∷ drop (i + 1) trail
  pub next : take (i + 1) trail ≡ take i trail ++ entry ∷ []
  pub lit : (d : ℤ) → slice_index_or (literals_of trail) i d ≡ entry.lit
  pub level : level_of trail (variable entry.lit) ≡ Some entry.level
  pub reason : reason_of trail (variable entry.lit) ≡ entry.reason

-- how many entries of a level have a variable that the clause contains
abbrev pub count_at : List Entry → ℕ → List ℤ → ℕ
count_at trail level c = length (filter (λ (e : Entry). e.level == level && mentions c (variable e.lit)) trail)

-- The trail has a place for each literal, the last of which is of the present level, and at most one literal of each
-- variable. What is counted along two pieces is counted along the whole; after the entries by which a clause is false
-- nothing of it is. Where a literal of the present level is counted up to an entry, the entry is of that level. A false
-- clause is known by its variables. Its resolvent with the reason of an entry has the variables of both but the
-- entry's. One literal more counts where its variable is new to the clause and of the level; only the variables of the
-- entries matter. Before an assigned literal none of the present level is counted. Where none is, no literal but the
-- entry's complement is of the present level.
pub record PlaceLaw : Type 0 where
  pub place : (p : Propagation) (i : ℕ) → IsPropagation p → i < length p.trail → IsPlace p.trail i
  pub last : (before : List Entry) (e : Entry) → present_level (before ++ e ∷ []) ≡ e.level
  pub few : (p : Propagation) → IsPropagation p → length p.trail ≤ p.vars
  pub by_variables : (p : Propagation) (c : List ℤ) (l : ℤ) → IsPropagation p → IsTrue (are_false_in p.trail c)
      → contains c l ≡ (mentions c (variable l) && false_in p.trail l)
  pub holds : (p : Propagation) (before : List Entry) (e : Entry) (after : List Entry) (c : List ℤ) → IsPropagation p → p.trail ≡ before ++ e ∷ after
      → IsTrue (are_false_in (before ++ e ∷ []) c) → contains c (complement e.lit) ≡ mentions c (variable e.lit)
  pub resolves : (p : Propagation) (before : List Entry) (e : Entry) (after : List Entry) (reason : ℕ) (c d : List ℤ) (v : ℕ) → IsPropagation p
      → p.trail ≡ before ++ e ∷ after → e.reason ≡ Some reason → clause_numbered p.clauses reason ≡ Some d → IsTrue (are_false_in (before ++ e ∷ []) c)
      → mentions (without c (complement e.lit) ++ without d e.lit) v ≡ ((mentions c v || mentions d v) && not (v == variable e.lit))
  pub none : (trail : List Entry) (level : ℕ) → count_at trail level [] ≡ 0
  pub one_more : (p : Propagation) (before after : List Entry) (level : ℕ) (c : List ℤ) (l : ℤ) → IsPropagation p → p.trail ≡ before ++ after
      → count_at before level (l ∷ c) ≡ count_at before level c + cond (stands_at before level l && not (mentions c (variable l))) 1 0
  pub one_entry : (before : List Entry) (e : Entry) (level : ℕ) (c : List ℤ)
      → count_at (before ++ e ∷ []) level c ≡ count_at before level c + cond (e.level == level && mentions c (variable e.lit)) 1 0
  pub same : (trail : List Entry) (level : ℕ) (c d : List ℤ) → ((l : ℤ) → IsTrue (contains (literals_of trail) l) → mentions c (variable l) ≡ mentions d (variable l))
      → count_at trail level c ≡ count_at trail level d
  pub assigned : (p : Propagation) (before : List Entry) (e : Entry) (after : List Entry) (c : List ℤ) → IsPropagation p → p.trail ≡ before ++ e ∷ after
      → e.reason ≡ None → count_at before (present_level p.trail) c ≡ 0
  pub alone : (p : Propagation) (before : List Entry) (e : Entry) (after : List Entry) (c : List ℤ) (k : ℤ) → IsPropagation p → p.trail ≡ before ++ e ∷ after
      → IsTrue (are_false_in (before ++ e ∷ []) c) → count_at before (present_level p.trail) c ≡ 0 → IsTrue (contains c k) → k ≢ complement e.lit
      → IsTrue (not (stands_at p.trail (present_level p.trail) k))
  pub both : (before after : List Entry) (level : ℕ) (c : List ℤ) → count_at (before ++ after) level c ≡ count_at before level c + count_at after level c
  pub behind : (p : Propagation) (before after : List Entry) (level : ℕ) (c : List ℤ) → IsPropagation p → p.trail ≡ before ++ after
      → IsTrue (are_false_in before c) → count_at after level c ≡ 0
  pub present : (p : Propagation) (before : List Entry) (e : Entry) (after : List Entry) (c : List ℤ) → IsPropagation p → p.trail ≡ before ++ e ∷ after
      → 0 < count_at (before ++ e ∷ []) (present_level p.trail) c → e.level ≡ present_level p.trail
