-- A clause that waits and is looked at.
use Rattle.std.proofs.Common.{◌≡◌, ◌∙◌, ℕ, ◌+◌, ◌<◌, true, List, ℤ, length, get_or, refl, sym, ap, subst, arith}
use Rattle.std.specs.List.{list_all}
use Rattle.std.proofs.lemmas.List.{get_or_read}
use Rattle.std.proofs.lemmas.Bool.{not-true}
use Rattle.lk_model.specs.Formulas.Literal.{is_literal}
use Rattle.lk_model.proofs.ListTests.{passes_one}
use Rattle.lk_model.proofs.Literals.{clause_literals as literals_of_clause}
use Rattle.watch_prop.specs.declared.entry.NumberedClause.{NumberedClause}
use Rattle.watch_prop.specs.declared.watch.Watch.{Watch}
use Rattle.watch_prop.specs.declared.watch.Found.{Found}
use Rattle.watch_prop.specs.declared.watch.Found.TheVariants.{One, Two}
use Rattle.watch_prop.specs.declared.state.State.{State}
use Rattle.watch_prop.specs.Trail.{Path, true_in}
use Rattle.watch_prop.specs.Watch.{IsWatchChoice}
use Rattle.watch_prop.specs.declared.watcher_lists.Watcher.{Watcher}
use Rattle.watch_prop.specs.Watchers.{with_row}
use Rattle.watch_prop.specs.Linked.{AreBlocked, clause_at_place}
use Rattle.watch_prop.specs.States.{IsState, Leads, next_waiting}
use Rattle.watch_prop.proofs.States.{ListsNext, kept_leads, listed_upholds, one_satisfied}
use Rattle.watch_prop.proofs.Blocking.{blocked_with}
use Rattle.watch_prop.proofs.Lists.{among_at, length-swap_remove}
use Rattle.watch_prop.proofs.Demands.{clause_of, Forces, IsForced}
use Rattle.watch_prop.proofs.Listing.{IsListing, listed_linked}

-- the clause that is looked at
pub record IsNext (clauses : List NumberedClause) (path : Path) (s : State) : Type 0 where
  pub state : IsState clauses path s
  pub more : s.satisfied < length s.waiting.items

pub next_within : (clauses : List NumberedClause) (path : Path) (s : State) → IsNext clauses path s → next_waiting s < length clauses
next_within clauses path s n = n.state.known.linked.within (next_waiting s) (among_at s.waiting.items s.satisfied 0 n.more)

-- the clause, and what is found of it
pub record Seen (clauses : List NumberedClause) (path : Path) (s : State) (place : ℕ) (d : Found) : Type 0 where
  pub next : IsNext clauses path s
  pub place_is : place ≡ next_waiting s
  pub found : IsWatchChoice path.entries (clause_at_place clauses (next_waiting s)).lits d

-- from what is read
pub seen : (clauses : List NumberedClause) (path : Path) (s : State) (place : ℕ) (c : List ℤ) (d d' : Found) → IsNext clauses path s
    → place ≡ get_or s.waiting.items s.satisfied place → c ≡ (clause_at_place clauses place).lits → IsWatchChoice path.entries c d → d ≡ d' → Seen clauses path s place d'
seen clauses path s place c d d' next read lits found same =
    let there = get_or_read s.waiting.items s.satisfied place next.more read 0 in
    record {
      next = next;
      place_is = there;
      found = subst (λ (d : Found). IsWatchChoice path.entries (clause_at_place clauses (next_waiting s)).lits d) same
          (subst (λ (c : List ℤ). IsWatchChoice path.entries c d) (lits ∙ ap (λ (n : ℕ). (clause_at_place clauses n).lits) there) found);
    }

-- its literals are over the variables
pub next_literals : (clauses : List NumberedClause) (path : Path) (s : State) → IsNext clauses path s → list_all (is_literal path.vars) (clause_at_place clauses (next_waiting s)).lits ≡ true
next_literals clauses path s n = literals_of_clause path.vars (clause_at_place clauses (next_waiting s)).lits (clause_of clauses path s (next_waiting s) n.state (next_within clauses path s n))

-- TWO LITERALS THAT ARE NOT FALSE

pub lists : (clauses : List NumberedClause) (path : Path) (s : State) (x : Watch) → IsNext clauses path s → IsWatchChoice path.entries (clause_at_place clauses (next_waiting s)).lits (Two x)
    → IsListing path.vars clauses s.watches.items s.lists s.waiting.items (next_waiting s) s.satisfied x
lists clauses path s x n f = record {
  linked = n.state.known.linked;
  lits = literals_of_clause path.vars (clause_at_place clauses (next_waiting s)).lits (clause_of clauses path s (next_waiting s) n.state (next_within clauses path s n));
  within = n.more;
  stands = refl;
  in_first = f.0;
  in_second = f.1;
  apart = f.2;
}

shorter : (s s' : State) (x : Watch) → ListsNext s s' x → s.satisfied < length s.waiting.items → length s'.waiting.items + 1 ≡ length s.waiting.items
shorter s s' x m more = ap (λ (ps : List ℕ). length ps + 1) m.waiting ∙ length-swap_remove s.waiting.items s.satisfied (next_waiting s) more

listed_blocked : (clauses : List NumberedClause) (path : Path) (s s' : State) (x : Watch) → IsNext clauses path s
    → IsWatchChoice path.entries (clause_at_place clauses (next_waiting s)).lits (Two x) → ListsNext s s' x → AreBlocked clauses s'.lists.rows
listed_blocked clauses path s s' x n f m =
    let first : Watcher = record { place = next_waiting s; blocker = x.second } in
    let second : Watcher = record { place = next_waiting s; blocker = x.first } in
    subst (λ (rows : List (List Watcher)). AreBlocked clauses rows) (sym m.rows)
    (blocked_with clauses (with_row s.lists.rows x.first first) x.second second (blocked_with clauses s.lists.rows x.first first n.state.known.blocked f.1) f.0)

pub listed_leads : (clauses : List NumberedClause) (path : Path) (s s' : State) (x : Watch) → IsNext clauses path s
    → IsWatchChoice path.entries (clause_at_place clauses (next_waiting s)).lits (Two x) → ListsNext s s' x → Leads clauses path path s s'
listed_leads clauses path s s' x n f m =
    let old = n.state.known in
    let less = shorter s s' x m n.more in
    let within = next_within clauses path s n in
    kept_leads clauses path s s' n.state m.keeps
    (listed_upholds clauses path.entries s s' x old.linked.distinct n.more (omega (arith, within, old.linked.places)) m
    (not-true _ f.3) (not-true _ f.4))
    (listed_linked path.vars clauses s.watches.items s'.watches.items s.lists s'.lists s.waiting.items s'.waiting.items (next_waiting s) s.satisfied x
    (lists clauses path s x n f) m.watches m.lists m.counts m.waiting)
    (listed_blocked clauses path s s' x n f m)
    (omega (arith, less, n.more, m.keeps.satisfied))

-- JUST ONE

pub only_one : (clauses : List NumberedClause) (path : Path) (s : State) (l : ℤ) → IsNext clauses path s → IsWatchChoice path.entries (clause_at_place clauses (next_waiting s)).lits (One l)
    → Forces clauses path (next_waiting s) l
only_one clauses path s l n f = record { in_clauses = next_within clauses path s n; has_it = f.0; free = not-true _ f.1; others = f.2 }

pub only_leads : (clauses : List NumberedClause) (path path' : Path) (s : State) (l : ℤ) → IsNext clauses path s → IsWatchChoice path.entries (clause_at_place clauses (next_waiting s)).lits (One l)
    → IsForced clauses path path' s l → Leads clauses path path' s (record s { satisfied = s.satisfied + 1 })
only_leads clauses path path' s l n f made = record {
  state = one_satisfied clauses path' s made.leads.state n.more (passes_one (true_in path'.entries) (clause_at_place clauses (next_waiting s)).lits l f.0 made.truth);
  goes_on = made.leads.goes_on;
}
