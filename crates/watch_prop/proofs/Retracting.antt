-- Back at a level.
use Rattle.std.proofs.Common.{◌≡◌, ◌∙◌, ℕ, ◌<◌, true, List, length, length-take-le, take, refl, sym, ap, subst, arith, Vec, vec_capacity}
use Rattle.std.specs.declared.alloc.Global.{Global}
use Rattle.std.proofs.lemmas.List.{get_or-take, take_all}
use Rattle.watch_prop.specs.declared.entry.Entry.{Entry}
use Rattle.watch_prop.specs.declared.entry.NumberedClause.{NumberedClause}
use Rattle.watch_prop.specs.declared.watch.Watch.{Watch}
use Rattle.watch_prop.specs.declared.state.State.{State}
use Rattle.watch_prop.specs.Trail.{Path, present_level, up_to_level, is_trail}
use Rattle.watch_prop.specs.Watchers.{Watchers}
use Rattle.watch_prop.specs.Linked.{IsLinked, AreBlocked}
use Rattle.watch_prop.specs.States.{IsState, IsKnownBelow, AreUpheld, mark_at}
use Rattle.watch_prop.proofs.Trails.{trail_prefix}
use Rattle.watch_prop.proofs.States.{same_upheld}
use Rattle.watch_prop.proofs.Levels.{prefix_of, level_twice, fewer}

-- THE TRAIL UP TO A LEVEL

mark_take : (marks : List ℕ) (n level : ℕ) → level < n → mark_at (take n marks) level ≡ mark_at marks level
mark_take marks n level lt = get_or-take n marks level 0 lt

-- THE STATE

-- what differs where all above a level is taken back
pub record Returns (path path' : Path) (s s' : State) (level : ℕ) : Type 0 where
  pub below : level < length s.marks.items
  pub path_is : path' ≡ record path { entries = up_to_level level path.entries }
  pub watches : s'.watches ≡ s.watches
  pub lists : s'.lists ≡ s.lists
  pub waiting : s'.waiting ≡ s.waiting
  pub satisfied : s'.satisfied ≡ mark_at s.marks.items level
  pub head : s'.head ≡ length (up_to_level level path.entries)
  pub marks : s'.marks.items ≡ take level s.marks.items
  pub capacity : vec_capacity s'.marks ≡ vec_capacity s.marks

returned_upheld : (clauses : List NumberedClause) (path path' : Path) (s s' : State) (level : ℕ) (trail passed : List Entry) (count : ℕ) → Returns path path' s s' level
    → AreUpheld clauses s trail passed count → AreUpheld clauses s' trail passed count
returned_upheld clauses path path' s s' level trail passed count r h =
    same_upheld clauses s s' trail passed count (ap (λ (v : Vec Watch Global). v.items) r.watches) (ap (λ (v : Vec ℕ Global). v.items) r.waiting) h

returned_below : (clauses : List NumberedClause) (path path' : Path) (s s' : State) (level j : ℕ) → IsState clauses path s → Returns path path' s s' level → j < level
    → IsKnownBelow clauses (up_to_level level path.entries) s' j
returned_below clauses path path' s s' level j h r lt =
    let old = h.known in
    let within : j < present_level path.entries = omega (arith, lt, r.below, old.marks) in
    let b = old.below j within in
    let same = sym (level_twice j level path.entries (omega (arith, lt))) in
    let mark : mark_at s'.marks.items j ≡ mark_at s.marks.items j = ap (λ (ms : List ℕ). mark_at ms j) r.marks ∙ mark_take s.marks.items level j lt in
    let rise = old.rising j level lt r.below in
    record {
      mark = omega (arith, mark, rise, r.satisfied);
      passed = (let f = fewer j (up_to_level level path.entries) in omega (arith, f, r.head));
      upheld = subst (λ (t : List Entry). AreUpheld clauses s' t t (mark_at s'.marks.items j)) same
          (subst (λ (n : ℕ). AreUpheld clauses s' (up_to_level j path.entries) (up_to_level j path.entries) n) (sym mark)
          (returned_upheld clauses path path' s s' level (up_to_level j path.entries) (up_to_level j path.entries) (mark_at s.marks.items j) r b.upheld));
    }

pub returned_state : (clauses : List NumberedClause) (path path' : Path) (s s' : State) (level : ℕ) → IsState clauses path s → Returns path path' s s' level → IsState clauses path' s'
returned_state clauses path path' s s' level h r =
    let old = h.known in
    let trail = path.entries in
    let back = up_to_level level trail in
    let pre = prefix_of path.vars clauses level (length trail) trail refl h.propagation.trail in
    let present : present_level back ≡ level = pre.reached (omega (arith, r.below, old.marks)) in
    let below = old.below level (omega (arith, r.below, old.marks)) in
    let count : length s'.marks.items ≡ level = ap length r.marks ∙ length-take-le level s.marks.items (omega (arith, r.below)) in
    let waiting : s'.waiting.items ≡ s.waiting.items = ap (λ (v : Vec ℕ Global). v.items) r.waiting in
    subst (λ (p : Path). IsState clauses p s') (sym r.path_is) (record {
      propagation = record {
        vars = h.propagation.vars;
        clauses = h.propagation.clauses;
        numbers = h.propagation.numbers;
        trail = trail_prefix path.vars clauses back pre.rest (subst (λ (t : List Entry). is_trail path.vars clauses t ≡ true) pre.whole h.propagation.trail);
      };
      known = record {
        linked = subst (λ (ps : List ℕ). IsLinked path.vars clauses s'.watches.items s'.lists ps) (sym waiting)
            (subst (λ (ws : Vec Watch Global). IsLinked path.vars clauses ws.items s'.lists s.waiting.items) (sym r.watches)
            (subst (λ (ls : Watchers). IsLinked path.vars clauses s.watches.items ls s.waiting.items) (sym r.lists) old.linked));
        blocked = subst (λ (ls : Watchers). AreBlocked clauses ls.rows) (sym r.lists) old.blocked;
        satisfied = (let same = ap length waiting in omega (arith, r.satisfied, below.mark, old.satisfied, same));
        head = omega (arith, r.head);
        marks = count ∙ sym present;
        marks_room = omega (arith, r.capacity, old.marks_room);
        rising = λ j k lt within.
            let k_under : k < level = omega (arith, within, count) in
            let a : mark_at s'.marks.items j ≡ mark_at s.marks.items j = ap (λ (ms : List ℕ). mark_at ms j) r.marks ∙ mark_take s.marks.items level j (omega (arith, lt, k_under)) in
            let b : mark_at s'.marks.items k ≡ mark_at s.marks.items k = ap (λ (ms : List ℕ). mark_at ms k) r.marks ∙ mark_take s.marks.items level k k_under in
            let rise = old.rising j k lt (omega (arith, k_under, r.below)) in
            omega (arith, a, b, rise);
        upheld = subst (λ (t : List Entry). AreUpheld clauses s' back t s'.satisfied) (sym (take_all s'.head back (let e = r.head in omega (arith, e))))
            (subst (λ (n : ℕ). AreUpheld clauses s' back back n) (sym r.satisfied)
            (returned_upheld clauses path path' s s' level back back (mark_at s.marks.items level) r below.upheld));
        below = λ j lt. returned_below clauses path path' s s' level j h r (omega (arith, lt, present));
      };
    })
