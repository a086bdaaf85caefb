-- How clauses, the literals that they watch, and the lists of watchers go together.
use Rattle.std.specs.Prelude.{◌≡◌, ℕ, ◌+◌, ◌*◌, ◌<◌, ◌||◌, List, [], filter, length, not, ℤ, pos, Bool, slice_index_or, slice_set, IsTrue}
use Rattle.std.specs.List.{swap_remove, list_all}
use Rattle.std.specs.Ordering.{int_eq}
use Rattle.lk_model.specs.Lists.{among}
use Rattle.lk_model.specs.Formulas.Literal.{contains, is_literal, rank_of}
use Rattle.watch_prop.specs.declared.entry.NumberedClause.{NumberedClause}
use Rattle.watch_prop.specs.declared.watch.Watch.{Watch}
use Rattle.watch_prop.specs.Propagation.{are_distinct}
use Rattle.watch_prop.specs.declared.watcher_lists.Watcher.{Watcher}
use Rattle.watch_prop.specs.Watchers.{Watchers, watchers, row_of, count_of, with_watcher, with_row}

abbrev pub clause_at_place : List NumberedClause → ℕ → NumberedClause
clause_at_place clauses place = slice_index_or clauses place (record { number = 0; lits = [] })

abbrev pub watch_at : List Watch → ℕ → Watch
watch_at watches place = slice_index_or watches place (record { first = pos 0; second = pos 0 })

-- the literal is one of the two
abbrev pub watches_it : Watch → ℤ → Bool
watches_it w l = int_eq l w.first || int_eq l w.second

-- a clause that does not wait has the two literals that it watches, and stands in their lists
pub record IsWatched (clauses : List NumberedClause) (watches : List Watch) (lists : List (List ℕ)) (place : ℕ) : Type 0 where
  pub first : IsTrue (contains (clause_at_place clauses place).lits (watch_at watches place).first)
  pub second : IsTrue (contains (clause_at_place clauses place).lits (watch_at watches place).second)
  pub apart : IsTrue (not (int_eq (watch_at watches place).second (watch_at watches place).first))
  pub in_first : IsTrue (among (watchers lists (watch_at watches place).first) place)
  pub in_second : IsTrue (among (watchers lists (watch_at watches place).second) place)

-- a literal's list has no clause twice, none that waits, and none that does not watch the literal; the clauses that have it
-- are counted
pub record IsListed (clauses : List NumberedClause) (watches : List Watch) (w : Watchers) (waiting : List ℕ) (l : ℤ) : Type 0 where
  pub distinct : IsTrue (are_distinct (watchers w.lists l))
  pub within : (place : ℕ) → IsTrue (among (watchers w.lists l) place) → place < length clauses
  pub ready : (place : ℕ) → IsTrue (among (watchers w.lists l) place) → IsTrue (not (among waiting place))
  pub watched : (place : ℕ) → IsTrue (among (watchers w.lists l) place) → IsTrue (watches_it (watch_at watches place) l)
  pub count : count_of w.counts l ≡ length (filter (λ (c : NumberedClause). contains c.lits l) clauses)

pub record IsLinked (vars : ℕ) (clauses : List NumberedClause) (watches : List Watch) (w : Watchers) (waiting : List ℕ) : Type 0 where
  pub ranks : length w.lists ≡ 2 * vars + 2
  pub counts : length w.counts ≡ 2 * vars + 2
  pub places : length watches ≡ length clauses
  pub distinct : IsTrue (are_distinct waiting)
  pub within : (place : ℕ) → IsTrue (among waiting place) → place < length clauses
  pub watched : (place : ℕ) → place < length clauses → IsTrue (not (among waiting place)) → IsWatched clauses watches w.lists place
  pub listed : (l : ℤ) → IsTrue (is_literal vars l) → IsListed clauses watches w waiting l

-- the lists when the clause at a place of one literal's list watches another literal instead
abbrev pub moved : List (List ℕ) → ℤ → ℕ → ℤ → List (List ℕ)
moved lists l at to =
    let place = slice_index_or (watchers lists l) at 0 in
    let without = slice_set lists (rank_of l) (swap_remove (watchers lists l) at place) in
    with_watcher without to place

-- the rows when the clause at a place of one literal's row watches another literal instead, with another blocker
abbrev pub moved_rows : List (List Watcher) → ℤ → ℕ → ℤ → ℤ → List (List Watcher)
moved_rows rows l at to blocker =
    let w = slice_index_or (row_of rows l) at (record { place = 0; blocker = pos 0 }) in
    let without = slice_set rows (rank_of l) (swap_remove (row_of rows l) at w) in
    with_row without to (record { place = w.place; blocker = blocker })

-- a row, and the rows, when the watcher at a place of one has another blocker
abbrev pub with_blocker : List Watcher → ℕ → ℤ → List Watcher
with_blocker row at blocker = slice_set row at (record { place = (slice_index_or row at (record { place = 0; blocker = pos 0 })).place; blocker = blocker })

abbrev pub blocked_rows : List (List Watcher) → ℤ → ℕ → ℤ → List (List Watcher)
blocked_rows rows l at blocker = slice_set rows (rank_of l) (with_blocker (row_of rows l) at blocker)

-- the blocker is a literal of the clause
abbrev pub blocks : List NumberedClause → Watcher → Bool
blocks clauses w = contains (clause_at_place clauses w.place).lits w.blocker

-- each blocker is
abbrev pub AreBlocked : List NumberedClause → List (List Watcher) → Type 0
AreBlocked clauses rows = (r : ℕ) → IsTrue (list_all (blocks clauses) (slice_index_or rows r []))
