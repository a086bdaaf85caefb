-- What is known of clauses under a trail.
use Rattle.std.specs.Prelude.{◌≡◌, ◌≢◌, ℕ, ◌+◌, ◌-◌, ◌<◌, ◌≤◌, not, false, List, length, take, drop, ℤ, pos, slice_index_or, slice_set, vec_capacity, IsTrue, ⊤}
use Rattle.std.specs.Option.{option_map_or}
use Rattle.std.specs.List.{list_all, swap_remove}
use Rattle.std.specs.Ordering.{int_eq}
use Rattle.lk_model.specs.Lists.{among}
use Rattle.lk_model.specs.Formulas.Literal.{complement}
use Rattle.watch_prop.specs.declared.entry.Entry.{Entry}
use Rattle.watch_prop.specs.declared.entry.NumberedClause.{NumberedClause}
use Rattle.watch_prop.specs.declared.entry.Propagated.{Propagated}
use Rattle.watch_prop.specs.declared.entry.Propagated.TheVariants.{Quiet, Conflict}
use Rattle.watch_prop.specs.declared.watch.Watch.{Watch}
use Rattle.watch_prop.specs.declared.state.State.{State}
use Rattle.watch_prop.specs.declared.state.Settled.{Settled}
use Rattle.watch_prop.specs.declared.state.Settled.TheVariants.{Stays, Moves, IsFalse}
use Rattle.watch_prop.specs.Trail.{Path, literals_of, false_in, present_level, up_to_level, clause_numbered}
use Rattle.watch_prop.specs.Watch.{other_of, has_true, is_upheld}
use Rattle.watch_prop.specs.Watchers.{watchers, with_watcher, with_row}
use Rattle.watch_prop.specs.Linked.{IsLinked, AreBlocked, clause_at_place, watch_at}
use Rattle.watch_prop.specs.Propagation.{Propagation, IsPropagation, GoesOn, assigned}
use Rattle.lk_model.specs.Formulas.Units.{is_false}

-- the clause that waits at a place of the list of those
abbrev pub waiting_at : List ℕ → ℕ → ℕ
waiting_at waiting n = slice_index_or waiting n 0

-- the next one to be looked at
abbrev pub next_waiting : State → ℕ
next_waiting s = waiting_at s.waiting.items s.satisfied

-- how many are to be looked at
abbrev pub unseen : State → ℕ
unseen s = length s.waiting.items - s.satisfied

abbrev pub mark_at : List ℕ → ℕ → ℕ
mark_at marks level = slice_index_or marks level 0

-- Under a trail of which some literals were passed on, the first `count` clauses that wait have a true literal, and
-- those that don't wait are upheld.
pub record AreUpheld (clauses : List NumberedClause) (s : State) (trail passed : List Entry) (count : ℕ) : Type 0 where
  pub waiting : (n : ℕ) → n < count → IsTrue (has_true trail (clause_at_place clauses (waiting_at s.waiting.items n)).lits)
  pub ready : (place : ℕ) → place < length clauses → IsTrue (not (among s.waiting.items place)) → IsTrue (is_upheld trail passed (clause_at_place clauses place).lits (watch_at s.watches.items place))

-- what is known of a level below the present one: all that stands up to it was passed on
pub record IsKnownBelow (clauses : List NumberedClause) (trail : List Entry) (s : State) (level : ℕ) : Type 0 where
  pub mark : mark_at s.marks.items level ≤ s.satisfied
  pub passed : length (up_to_level level trail) ≤ s.head
  pub upheld : AreUpheld clauses s (up_to_level level trail) (up_to_level level trail) (mark_at s.marks.items level)

pub record IsKnown (vars : ℕ) (clauses : List NumberedClause) (trail : List Entry) (s : State) : Type 0 where
  pub linked : IsLinked vars clauses s.watches.items s.lists s.waiting.items
  pub blocked : AreBlocked clauses s.lists.rows
  pub satisfied : s.satisfied ≤ length s.waiting.items
  pub head : s.head ≤ length trail
  pub marks : length s.marks.items ≡ present_level trail
  pub marks_room : vars ≤ vec_capacity s.marks
  pub rising : (j k : ℕ) → j < k → k < length s.marks.items → mark_at s.marks.items j ≤ mark_at s.marks.items k
  pub upheld : AreUpheld clauses s trail (take s.head trail) s.satisfied
  pub below : (level : ℕ) → level < present_level trail → IsKnownBelow clauses trail s level

-- the propagation of clauses and a path
abbrev pub propagation_of : List NumberedClause → Path → Propagation
propagation_of clauses path = record { vars = path.vars; clauses = clauses; trail = path.entries }

-- what propagation keeps
pub record IsState (clauses : List NumberedClause) (path : Path) (s : State) : Type 0 where
  pub propagation : IsPropagation (propagation_of clauses path)
  pub known : IsKnown path.vars clauses path.entries s

-- one step leads from one state to another
pub record Leads (clauses : List NumberedClause) (path path' : Path) (s s' : State) : Type 0 where
  pub state : IsState clauses path' s'
  pub goes_on : GoesOn (propagation_of clauses path) (propagation_of clauses path')

-- the literal at the head of the trail is the complement
abbrev pub IsAtHead : List Entry → ℕ → ℤ → Type 0
IsAtHead trail head l = (head < length trail) × (slice_index_or (literals_of trail) head (pos 0) ≡ complement l)

-- What becomes of a clause that watches the false literal l and another one, b. It keeps its watch, and has a true literal. Or it
-- watches a literal in place of l that is not b and not false. Or it is false.
abbrev pub IsSettled : List NumberedClause → List Entry → List Entry → Watch → Watch → ℕ → ℤ → Settled → Type 0
IsSettled clauses trail trail' w w' place l Stays = (w' ≡ w) × IsTrue (has_true trail' (clause_at_place clauses place).lits)
IsSettled clauses trail trail' w w' place l Moves = (trail' ≡ trail) × (w'.second ≡ other_of w l) × IsTrue (not (int_eq w'.first (other_of w l))) × IsTrue (not (false_in trail w'.first))
IsSettled clauses trail trail' w w' place l IsFalse = IsTrue (list_all (false_in trail') (clause_at_place clauses place).lits)

-- what becomes of the list of l: it stays, or the clause leaves it, and no other one leaves what comes from its place on
abbrev pub IsListAfter : Settled → ℕ → ℕ → List ℕ → List ℕ → Type 0
IsListAfter Stays place at old new = new ≡ old
IsListAfter Moves place at old new =
    (length new + 1 ≡ length old) × ((p : ℕ) → p ≢ place → IsTrue (among (drop at old) p) → IsTrue (among (drop at new) p))
IsListAfter IsFalse place at old new = ⊤

-- a clause that stands at a place of the list of l is settled, and nothing else changes for the others
pub record Settles (clauses : List NumberedClause) (path path' : Path) (s s' : State) (place : ℕ) (l : ℤ) (at : ℕ) (result : Settled) : Type 0 where
  pub waiting : s'.waiting ≡ s.waiting
  pub satisfied : s'.satisfied ≡ s.satisfied
  pub head : s'.head ≡ s.head
  pub others : (p : ℕ) → p ≢ place → watch_at s'.watches.items p ≡ watch_at s.watches.items p
  pub settled : IsSettled clauses path.entries path'.entries (watch_at s.watches.items place) (watch_at s'.watches.items place) place l result
  pub list : IsListAfter result place at (watchers s.lists.lists l) (watchers s'.lists.lists l)

-- the next clause that waits watches these two literals, and nothing else changes
pub record ListsNext (s : State) (watch : Watch) (s' : State) : Type 0 where
  pub watches : s'.watches.items ≡ slice_set s.watches.items (next_waiting s) watch
  pub lists : s'.lists.lists ≡ with_watcher (with_watcher s.lists.lists watch.first (next_waiting s)) watch.second (next_waiting s)
  pub rows : s'.lists.rows ≡ with_row (with_row s.lists.rows watch.first (record { place = next_waiting s; blocker = watch.second })) watch.second (record { place = next_waiting s; blocker = watch.first })
  pub counts : s'.lists.counts ≡ s.lists.counts
  pub waiting : s'.waiting.items ≡ swap_remove s.waiting.items s.satisfied (next_waiting s)
  pub satisfied : s'.satisfied ≡ s.satisfied
  pub head : s'.head ≡ s.head
  pub marks : s'.marks ≡ s.marks

-- how a pass ends: with a clause that is false, or with what is wanted
abbrev pub Passes : List NumberedClause → Path → Propagated → Type 0 → Type 0
Passes clauses path Quiet wanted = wanted
Passes clauses path (Conflict k) wanted = IsTrue (option_map_or (is_false (assigned (propagation_of clauses path))) (clause_numbered clauses k) false)
