-- States of propagation, and what leads from one to the next.
use Rattle.std.proofs.Common.{◌≡◌, ◌≢◌, ℕ, ◌+◌, ◌<◌, ◌≤◌, true, false, not, List, [], ◌∷◌, ◌++◌, refl, sym, ◌∙◌, ap, subst, arith, ℤ, Some, length, length-append, take, set, get_or-set_other, get_or-set_same, inl, inr, Vec, vec_capacity}
use Rattle.std.specs.declared.alloc.Global.{Global}
use Rattle.std.specs.List.{swap_remove}
use Rattle.std.proofs.lemmas.Bool.{cases_eq, not-true}
use Rattle.std.proofs.lemmas.List.{take-append-le}
use Rattle.lk_model.specs.Lists.{among}
use Rattle.lk_model.specs.Formulas.Literal.{complement}
use Rattle.lk_model.proofs.Variables.{any_mono}
use Rattle.watch_prop.specs.declared.entry.Entry.{Entry}
use Rattle.watch_prop.specs.declared.entry.NumberedClause.{NumberedClause}
use Rattle.watch_prop.specs.declared.watch.Watch.{Watch}
use Rattle.watch_prop.specs.declared.state.State.{State}
use Rattle.watch_prop.specs.Trail.{Path, true_in, false_in, present_level, up_to_level, may_follow}
use Rattle.watch_prop.specs.Watch.{other_of, has_true, is_upheld}
use Rattle.watch_prop.specs.Watchers.{with_watcher, with_row}
use Rattle.watch_prop.specs.Propagation.{are_distinct}
use Rattle.watch_prop.specs.Linked.{IsLinked, AreBlocked, clause_at_place, watch_at, watches_it, moved, moved_rows}
use Rattle.watch_prop.specs.States.{IsState, IsKnown, IsKnownBelow, AreUpheld, Leads, propagation_of, mark_at, waiting_at, next_waiting}
use Rattle.watch_prop.proofs.Paths.{last_level}
use Rattle.watch_prop.proofs.Levels.{level_more}
use Rattle.watch_prop.proofs.Trails.{propagation_more, goes_on_one, goes_on_start, goes_on_then}
use Rattle.watch_prop.proofs.Upheld.{upheld_more, upheld_free, moved_upheld, not_there, part_whole, part_take, part_level, part_more, IsPart}
use Rattle.watch_prop.proofs.Lists.{AreLeft, are_left, swap_remove_before}

-- LONGER TRAILS

pub more_upheld : (clauses : List NumberedClause) (s : State) (trail more passed : List Entry) (count : ℕ) → AreUpheld clauses s trail passed count → AreUpheld clauses s (trail ++ more) passed count
more_upheld clauses s trail more passed count h = record {
  waiting = λ n lt. any_mono (true_in trail) (true_in (trail ++ more)) (clause_at_place clauses (waiting_at s.waiting.items n)).lits (part_more trail more).there (h.waiting n lt);
  ready = λ p lt out. upheld_more trail more passed (clause_at_place clauses p).lits (watch_at s.watches.items p) (h.ready p lt out);
}

below_more : (clauses : List NumberedClause) (trail : List Entry) (e : Entry) (s : State) (level : ℕ) → level < e.level → IsKnownBelow clauses trail s level → IsKnownBelow clauses (trail ++ e ∷ []) s level
below_more clauses trail e s level lt b =
    let same = sym (level_more level trail e lt) in
    record {
      mark = b.mark;
      passed = subst (λ (t : List Entry). length t ≤ s.head) same b.passed;
      upheld = subst (λ (t : List Entry). AreUpheld clauses s t t (mark_at s.marks.items level)) same b.upheld;
    }

known_more : (vars : ℕ) (clauses : List NumberedClause) (trail : List Entry) (s : State) (e : Entry) → IsKnown vars clauses trail s → e.level ≡ present_level trail
    → IsKnown vars clauses (trail ++ e ∷ []) s
known_more vars clauses trail s e h level =
    let last = last_level trail e in
    let long = length-append trail (e ∷ []) in
    record {
      linked = h.linked;
      blocked = h.blocked;
      satisfied = h.satisfied;
      head = omega (arith, h.head, long);
      marks = h.marks ∙ sym level ∙ sym last;
      marks_room = h.marks_room;
      rising = h.rising;
      upheld = subst (λ (t : List Entry). AreUpheld clauses s (trail ++ e ∷ []) t s.satisfied) (sym (take-append-le s.head trail (e ∷ []) h.head))
          (more_upheld clauses s trail (e ∷ []) (take s.head trail) s.satisfied h.upheld);
      below = λ j lt. (let under : j < e.level = omega (arith, lt, last) in let under_present : j < present_level trail = omega (arith, under, level) in below_more clauses trail e s j under (h.below j under_present));
    }

-- a literal that is forced at the present level
pub forced_leads : (clauses : List NumberedClause) (path path' : Path) (s : State) (e : Entry) (k : ℕ) → IsState clauses path s → may_follow path.vars clauses path.entries e ≡ true
    → e.level ≡ present_level path.entries → e.reason ≡ Some k → path' ≡ record path { entries = path.entries ++ e ∷ [] } → Leads clauses path path' s s
forced_leads clauses path path' s e k h may level reason made =
    subst (λ (p : Path). Leads clauses path p s s) (sym made) (record {
      state = record {
        propagation = propagation_more (propagation_of clauses path) e h.propagation may;
        known = known_more path.vars clauses path.entries s e h.known level;
      };
      goes_on = goes_on_one (propagation_of clauses path) e k level reason;
    })

-- NOTHING FORCED

pub stays_leads : (clauses : List NumberedClause) (path : Path) (s : State) → IsState clauses path s → Leads clauses path path s s
stays_leads clauses path s h = record { state = h; goes_on = goes_on_start (propagation_of clauses path) }

pub leads_then : (clauses : List NumberedClause) (p q r : Path) (u v w : State) → Leads clauses p q u v → Leads clauses q r v w → Leads clauses p r u w
leads_then clauses p q r u v w a b = record {
  state = b.state;
  goes_on = goes_on_then (propagation_of clauses p) (propagation_of clauses q) (propagation_of clauses r) a.goes_on b.goes_on;
}

-- A CLAUSE THAT WAITS HAS A TRUE LITERAL

-- one of them more
pub one_satisfied : (clauses : List NumberedClause) (path : Path) (s : State) → IsState clauses path s → s.satisfied < length s.waiting.items
    → has_true path.entries (clause_at_place clauses (next_waiting s)).lits ≡ true → IsState clauses path (record s { satisfied = s.satisfied + 1 })
one_satisfied clauses path s h more t = record {
  propagation = h.propagation;
  known = record {
    linked = h.known.linked;
    blocked = h.known.blocked;
    satisfied = omega (arith, more);
    head = h.known.head;
    marks = h.known.marks;
    marks_room = h.known.marks_room;
    rising = h.known.rising;
    upheld = record {
      waiting = λ n lt. elim (cases_eq n s.satisfied) [
        | inl y ↦ subst (λ (k : ℕ). has_true path.entries (clause_at_place clauses (waiting_at s.waiting.items k)).lits ≡ true) (sym y) t
        | inr y ↦ h.known.upheld.waiting n (omega (arith, lt, y))
      ];
      ready = h.known.upheld.ready;
    };
    below = λ j under. (let b = h.known.below j under in record { mark = omega (arith, b.mark); passed = b.passed; upheld = record { waiting = b.upheld.waiting; ready = b.upheld.ready } });
  };
}

-- ANOTHER STATE OVER THE SAME TRAIL

-- all that stays where just the watches, the lists and the clauses that wait change
pub record Keeps (s s' : State) : Type 0 where
  pub satisfied : s'.satisfied ≡ s.satisfied
  pub head : s'.head ≡ s.head
  pub marks : s'.marks ≡ s.marks

-- what a step has to show: what was upheld under some of the trail still is
pub record Upholds (clauses : List NumberedClause) (trail : List Entry) (s s' : State) : Type 0 where
  pub still : (sub passed : List Entry) (count : ℕ) → IsPart sub trail → IsPart passed trail → count ≤ s.satisfied → AreUpheld clauses s sub passed count → AreUpheld clauses s' sub passed count

pub kept_leads : (clauses : List NumberedClause) (path : Path) (s s' : State) → IsState clauses path s → Keeps s s' → Upholds clauses path.entries s s'
    → IsLinked path.vars clauses s'.watches.items s'.lists s'.waiting.items → AreBlocked clauses s'.lists.rows → s'.satisfied ≤ length s'.waiting.items → Leads clauses path path s s'
kept_leads clauses path s s' h k u linked blocked within =
    let old = h.known in
    let trail = path.entries in
    let marks : length s'.marks.items ≡ length s.marks.items = ap (λ (v : Vec ℕ Global). length v.items) k.marks in
    let room : vec_capacity s'.marks ≡ vec_capacity s.marks = ap (λ (v : Vec ℕ Global). vec_capacity v) k.marks in
    let none : s.satisfied ≤ s.satisfied = omega arith in
    record {
      state = record {
        propagation = h.propagation;
        known = record {
          linked = linked;
          blocked = blocked;
          satisfied = within;
          head = omega (arith, k.head, old.head);
          marks = marks ∙ old.marks;
          marks_room = omega (arith, room, old.marks_room);
          rising = subst (λ (v : Vec ℕ Global). (i j : ℕ) → i < j → j < length v.items → mark_at v.items i ≤ mark_at v.items j) (sym k.marks) old.rising;
          upheld = subst (λ (n : ℕ). AreUpheld clauses s' trail (take n trail) s'.satisfied) (sym k.head)
              (subst (λ (n : ℕ). AreUpheld clauses s' trail (take s.head trail) n) (sym k.satisfied)
              (u.still trail (take s.head trail) s.satisfied (part_whole trail) (part_take s.head trail) none old.upheld));
          below = λ level under.
              let b = old.below level under in
              let mark : mark_at s'.marks.items level ≡ mark_at s.marks.items level = ap (λ (v : Vec ℕ Global). mark_at v.items level) k.marks in
              record {
                mark = omega (arith, mark, b.mark, k.satisfied);
                passed = omega (arith, b.passed, k.head);
                upheld = subst (λ (n : ℕ). AreUpheld clauses s' (up_to_level level trail) (up_to_level level trail) n) (sym mark)
                    (u.still (up_to_level level trail) (up_to_level level trail) (mark_at s.marks.items level) (part_level level trail) (part_level level trail) b.mark b.upheld);
              };
        };
      };
      goes_on = goes_on_start (propagation_of clauses path);
    }

-- where the watches and the clauses that wait stay
pub same_upheld : (clauses : List NumberedClause) (s s' : State) (trail passed : List Entry) (count : ℕ) → s'.watches.items ≡ s.watches.items → s'.waiting.items ≡ s.waiting.items
    → AreUpheld clauses s trail passed count → AreUpheld clauses s' trail passed count
same_upheld clauses s s' trail passed count watches waiting h = record {
  waiting = λ n lt. subst (λ (ps : List ℕ). has_true trail (clause_at_place clauses (waiting_at ps n)).lits ≡ true) (sym waiting) (h.waiting n lt);
  ready = λ p lt out. subst (λ (ws : List Watch). is_upheld trail passed (clause_at_place clauses p).lits (watch_at ws p) ≡ true) (sym watches) (h.ready p lt (subst (λ (ps : List ℕ). not (among ps p) ≡ true) waiting out));
}

-- ANOTHER LITERAL WATCHED

-- what differs where the clause at a place, which stands at `at` of the list of l, watches r in place of l
pub record Differs (s s' : State) (place : ℕ) (l r : ℤ) (at : ℕ) : Type 0 where
  pub watches : s'.watches.items ≡ set s.watches.items place (record { first = r; second = other_of (watch_at s.watches.items place) l })
  pub lists : s'.lists.lists ≡ moved s.lists.lists l at r
  pub rows : s'.lists.rows ≡ moved_rows s.lists.rows l at r (other_of (watch_at s.watches.items place) l)
  pub counts : s'.lists.counts ≡ s.lists.counts
  pub waiting : s'.waiting ≡ s.waiting
  pub keeps : Keeps s s'

pub watch_here : (s s' : State) (place : ℕ) (l r : ℤ) (at : ℕ) → place < length s.watches.items → Differs s s' place l r at
    → watch_at s'.watches.items place ≡ record { first = r; second = other_of (watch_at s.watches.items place) l }
watch_here s s' place l r at lt d = ap (λ (ws : List Watch). watch_at ws place) d.watches ∙ get_or-set_same s.watches.items place _ _ lt

pub watch_there : (s s' : State) (place : ℕ) (l r : ℤ) (at p : ℕ) → Differs s s' place l r at → p ≢ place → watch_at s'.watches.items p ≡ watch_at s.watches.items p
watch_there s s' place l r at p d n = ap (λ (ws : List Watch). watch_at ws p) d.watches ∙ get_or-set_other s.watches.items place p _ _ n

-- where the old watch is upheld, the new one is then
pub record MayMove (trail : List Entry) (s : State) (place : ℕ) (l r : ℤ) : Type 0 where
  pub it : watches_it (watch_at s.watches.items place) l ≡ true
  pub free : false_in trail r ≡ false

pub moved_upholds : (clauses : List NumberedClause) (trail : List Entry) (s s' : State) (place : ℕ) (l r : ℤ) (at : ℕ) → place < length s.watches.items → Differs s s' place l r at
    → MayMove trail s place l r → Upholds clauses trail s s'
moved_upholds clauses trail s s' place l r at lt d m = record {
  still = λ sub passed count part passed_part under h. record {
    waiting = λ n below. subst (λ (v : Vec ℕ Global). has_true sub (clause_at_place clauses (waiting_at v.items n)).lits ≡ true) (sym d.waiting) (h.waiting n below);
    ready = λ p in_clauses out.
        let old = h.ready p in_clauses (subst (λ (v : Vec ℕ Global). not (among v.items p) ≡ true) d.waiting out) in
        elim (cases_eq p place) [
          | inl y ↦
              let c = (clause_at_place clauses place).lits in
              let there : is_upheld sub passed c (watch_at s.watches.items place) ≡ true =
              subst (λ (k : ℕ). is_upheld sub passed (clause_at_place clauses k).lits (watch_at s.watches.items k) ≡ true) y old in
              let made = moved_upheld trail sub passed c (watch_at s.watches.items place) l r passed_part there m.it m.free in
              subst (λ (k : ℕ). is_upheld sub passed (clause_at_place clauses k).lits (watch_at s'.watches.items k) ≡ true) (sym y)
              (subst (λ (x : Watch). is_upheld sub passed c x ≡ true) (sym (watch_here s s' place l r at lt d)) made)
          | inr y ↦ subst (λ (x : Watch). is_upheld sub passed (clause_at_place clauses p).lits x ≡ true) (sym (watch_there s s' place l r at p d y)) old
        ];
  };
}

-- A CLAUSE THAT NO LONGER WAITS

-- what differs where the next clause that waits comes to watch two literals
pub record ListsNext (s s' : State) (x : Watch) : Type 0 where
  pub watches : s'.watches.items ≡ set s.watches.items (next_waiting s) x
  pub lists : s'.lists.lists ≡ with_watcher (with_watcher s.lists.lists x.first (next_waiting s)) x.second (next_waiting s)
  pub rows : s'.lists.rows ≡ with_row (with_row s.lists.rows x.first (record { place = next_waiting s; blocker = x.second })) x.second (record { place = next_waiting s; blocker = x.first })
  pub counts : s'.lists.counts ≡ s.lists.counts
  pub waiting : s'.waiting.items ≡ swap_remove s.waiting.items s.satisfied (next_waiting s)
  pub keeps : Keeps s s'

pub listed_upholds : (clauses : List NumberedClause) (trail : List Entry) (s s' : State) (x : Watch) → are_distinct s.waiting.items ≡ true
    → s.satisfied < length s.waiting.items → next_waiting s < length s.watches.items → ListsNext s s' x → false_in trail x.first ≡ false → false_in trail x.second ≡ false
    → Upholds clauses trail s s'
listed_upholds clauses trail s s' x distinct more lt d f g = record {
  still = λ sub passed count part passed_part under h. record {
    waiting = λ n below.
        let same : waiting_at s'.waiting.items n ≡ waiting_at s.waiting.items n =
        ap (λ (xs : List ℕ). waiting_at xs n) d.waiting ∙ swap_remove_before s.waiting.items s.satisfied place n more (omega (arith, below, under)) in
        subst (λ (p : ℕ). has_true sub (clause_at_place clauses p).lits ≡ true) (sym same) (h.waiting n below);
    ready = λ p in_clauses out. elim (cases_eq p place) [
      | inl y ↦
          let here : watch_at s'.watches.items place ≡ x = ap (λ (ws : List Watch). watch_at ws place) d.watches ∙ get_or-set_same s.watches.items place x _ lt in
          subst (λ (k : ℕ). is_upheld sub passed (clause_at_place clauses k).lits (watch_at s'.watches.items k) ≡ true) (sym y)
          (subst (λ (w : Watch). is_upheld sub passed (clause_at_place clauses place).lits w ≡ true) (sym here)
          (upheld_free sub passed (clause_at_place clauses place).lits x (not_there passed trail (complement x.first) passed_part f) (not_there passed trail (complement x.second) passed_part g)))
      | inr y ↦
          let there : watch_at s'.watches.items p ≡ watch_at s.watches.items p = ap (λ (ws : List Watch). watch_at ws p) d.watches ∙ get_or-set_other s.watches.items place p x _ y in
          let no : among (swap_remove s.waiting.items s.satisfied place) p ≡ false = not-true _ (subst (λ (xs : List ℕ). not (among xs p) ≡ true) d.waiting out) in
          subst (λ (w : Watch). is_upheld sub passed (clause_at_place clauses p).lits w ≡ true) (sym there) (h.ready p in_clauses (rw (left.stay p y no) refl))
    ];
  };
}
  where
    place : ℕ
    place = next_waiting s

    left : AreLeft s.waiting.items (swap_remove s.waiting.items s.satisfied (next_waiting s)) (next_waiting s)
    left = are_left s.waiting.items s.satisfied (next_waiting s) distinct more refl
