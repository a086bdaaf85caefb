-- One more clause, and none.
use Rattle.std.proofs.Common.{◌≡◌, ◌∙◌, ℕ, ◌+◌, ◌*◌, ◌<◌, ◌≤◌, ◌++◌, ◌∷◌, [], true, not, ◌&&◌, List, ℤ, length, length-append, take, replicate, refl, sym, ap, subst, arith, Vec, vec_capacity, nat_lt}
use Rattle.std.specs.declared.alloc.Global.{Global}
use Rattle.std.specs.List.{list_all}
use Rattle.std.proofs.lemmas.Bool.{lt-ltb, le-leb}
use Rattle.std.proofs.lemmas.List.{get_or_append_left}
use Rattle.lk_model.specs.Limits.{max_vars}
use Rattle.watch_prop.specs.declared.entry.Entry.{Entry}
use Rattle.lk_model.specs.Lists.{among, is_empty}
use Rattle.lk_model.specs.Formulas.Literal.{is_literal, is_clause, rank_of}
use Rattle.lk_model.proofs.Booleans.{and_true}
use Rattle.lk_model.proofs.Ranks.{rank_small}
use Rattle.watch_prop.specs.declared.entry.NumberedClause.{NumberedClause}
use Rattle.watch_prop.specs.declared.watch.Watch.{Watch}
use Rattle.watch_prop.specs.declared.state.State.{State}
use Rattle.watch_prop.specs.Trail.{Path, present_level, up_to_level, is_trail}
use Rattle.watch_prop.specs.declared.watcher_lists.Watcher.{Watcher}
use Rattle.watch_prop.specs.Watch.{has_true, is_upheld}
use Rattle.watch_prop.specs.Watchers.{with_counted}
use Rattle.watch_prop.specs.Linked.{IsLinked, AreBlocked, clause_at_place, watch_at}
use Rattle.watch_prop.specs.Propagation.{numbers_of}
use Rattle.watch_prop.specs.States.{IsState, IsKnown, AreUpheld, propagation_of, mark_at, waiting_at}
use Rattle.watch_prop.proofs.Trails.{holds_more}
use Rattle.watch_prop.proofs.Lists.{among_at}
use Rattle.watch_prop.proofs.Blocking.{blocked_more, blocked_none}
use Rattle.watch_prop.proofs.Listing.{before, clause_before, watch_before, waits_linked, none_linked}

pub ranks_within : (vars n : ℕ) (c : List ℤ) → n ≡ 2 * vars + 2 → list_all (is_literal vars) c ≡ true → list_all (λ l. nat_lt (rank_of l) n) c ≡ true
ranks_within vars n [] e h = refl
ranks_within vars n (l ∷ c) e h =
    let both = and_true (is_literal vars l) (list_all (is_literal vars) c) h in
    let small = rank_small vars l both.0 in
    rw (lt-ltb (rank_of l) n (omega (arith, small, e))) (ranks_within vars n c e both.1)

-- what is held besides
pub record Holds (clauses clauses' : List NumberedClause) (path : Path) (s s' : State) (d : NumberedClause) (x : Watch) : Type 0 where
  pub state : IsState clauses path s
  pub clause : (not (is_empty d.lits) && is_clause path.vars d.lits) ≡ true
  pub fresh : not (among (numbers_of clauses) d.number) ≡ true
  pub more : clauses' ≡ clauses ++ d ∷ []
  pub watches : s'.watches.items ≡ s.watches.items ++ x ∷ []
  pub lists : s'.lists.lists ≡ s.lists.lists
  pub rows : s'.lists.rows ≡ s.lists.rows
  pub counts : s'.lists.counts ≡ with_counted s.lists.counts d.lits
  pub waiting : s'.waiting.items ≡ s.waiting.items ++ length clauses ∷ []
  pub satisfied : s'.satisfied ≡ s.satisfied
  pub head : s'.head ≡ s.head
  pub marks : s'.marks ≡ s.marks

held_upheld : (clauses clauses' : List NumberedClause) (path : Path) (s s' : State) (d : NumberedClause) (x : Watch) (trail passed : List Entry) (count : ℕ)
    → Holds clauses clauses' path s s' d x → count ≤ s.satisfied → AreUpheld clauses s trail passed count → AreUpheld (clauses ++ d ∷ []) s' trail passed count
held_upheld clauses clauses' path s s' d x trail passed count h le u = record {
  waiting = λ n lt.
      let within : n < length s.waiting.items = omega (arith, lt, le, old.satisfied) in
      let same : waiting_at s'.waiting.items n ≡ waiting_at s.waiting.items n = ap (λ (ps : List ℕ). waiting_at ps n) h.waiting ∙ get_or_append_left s.waiting.items (length clauses ∷ []) 0 n within in
      let in_clauses = old.linked.within (waiting_at s.waiting.items n) (among_at s.waiting.items n 0 within) in
      subst (λ (p : ℕ). has_true trail (clause_at_place (clauses ++ d ∷ []) p).lits ≡ true) (sym same)
      (subst (λ (c : NumberedClause). has_true trail c.lits ≡ true) (sym (clause_before clauses d (waiting_at s.waiting.items n) in_clauses)) (u.waiting n lt));
  ready = λ p lt out.
      let b = before clauses d s.waiting.items p lt (subst (λ (ps : List ℕ). not (among ps p) ≡ true) h.waiting out) in
      let within = b.within in
      let same : watch_at s'.watches.items p ≡ watch_at s.watches.items p =
      ap (λ (ws : List Watch). watch_at ws p) h.watches ∙ watch_before s.watches.items x p (omega (arith, within, old.linked.places)) in
      subst (λ (y : Watch). is_upheld trail passed (clause_at_place (clauses ++ d ∷ []) p).lits y ≡ true) (sym same)
      (subst (λ (c : NumberedClause). is_upheld trail passed c.lits (watch_at s.watches.items p) ≡ true) (sym (clause_before clauses d p within)) (u.ready p within b.ready));
}
  where
    old : IsKnown path.vars clauses path.entries s
    old = h.state.known

pub held_state : (clauses clauses' : List NumberedClause) (path : Path) (s s' : State) (d : NumberedClause) (x : Watch) → Holds clauses clauses' path s s' d x → IsState clauses' path s'
held_state clauses clauses' path s s' d x h =
    let old = h.state.known in
    let both = and_true (not (is_empty d.lits)) (is_clause path.vars d.lits) h.clause in
    let linked : IsLinked path.vars (clauses ++ d ∷ []) (s.watches.items ++ x ∷ []) s'.lists (s.waiting.items ++ length clauses ∷ []) =
    waits_linked path.vars clauses s.watches.items s.lists s'.lists s.waiting.items d x old.linked both.1 h.lists h.counts in
    let count : length s'.waiting.items ≡ length s.waiting.items + 1 = ap length h.waiting ∙ length-append s.waiting.items (length clauses ∷ []) in
    let marks : length s'.marks.items ≡ length s.marks.items = ap (λ (v : Vec ℕ Global). length v.items) h.marks in
    let room : vec_capacity s'.marks ≡ vec_capacity s.marks = ap (λ (v : Vec ℕ Global). vec_capacity v) h.marks in
    let all : s.satisfied ≤ s.satisfied = omega arith in
    record {
      propagation = holds_more (propagation_of clauses path) clauses' d h.state.propagation h.clause h.fresh h.more;
      known = subst (λ (cs : List NumberedClause). IsKnown path.vars cs path.entries s') (sym h.more) (record {
        linked = subst (λ (ps : List ℕ). IsLinked path.vars (clauses ++ d ∷ []) s'.watches.items s'.lists ps) (sym h.waiting)
            (subst (λ (ws : List Watch). IsLinked path.vars (clauses ++ d ∷ []) ws s'.lists (s.waiting.items ++ length clauses ∷ [])) (sym h.watches) linked);
        blocked = subst (λ (rows : List (List Watcher)). AreBlocked (clauses ++ d ∷ []) rows) (sym h.rows) (blocked_more clauses d s.lists.rows old.blocked);
        satisfied = omega (arith, h.satisfied, old.satisfied, count);
        head = omega (arith, h.head, old.head);
        marks = marks ∙ old.marks;
        marks_room = omega (arith, room, old.marks_room);
        rising = subst (λ (v : Vec ℕ Global). (j k : ℕ) → j < k → k < length v.items → mark_at v.items j ≤ mark_at v.items k) (sym h.marks) old.rising;
        upheld = subst (λ (n : ℕ). AreUpheld (clauses ++ d ∷ []) s' path.entries (take n path.entries) s'.satisfied) (sym h.head)
            (subst (λ (n : ℕ). AreUpheld (clauses ++ d ∷ []) s' path.entries (take s.head path.entries) n) (sym h.satisfied)
            (held_upheld clauses clauses' path s s' d x path.entries (take s.head path.entries) s.satisfied h all old.upheld));
        below = λ level lt.
            let b = old.below level lt in
            let mark : mark_at s'.marks.items level ≡ mark_at s.marks.items level = ap (λ (v : Vec ℕ Global). mark_at v.items level) h.marks in
            record {
              mark = omega (arith, mark, b.mark, h.satisfied);
              passed = omega (arith, b.passed, h.head);
              upheld = subst (λ (n : ℕ). AreUpheld (clauses ++ d ∷ []) s' (up_to_level level path.entries) (up_to_level level path.entries) n) (sym mark)
                  (held_upheld clauses clauses' path s s' d x (up_to_level level path.entries) (up_to_level level path.entries) (mark_at s.marks.items level) h b.mark b.upheld);
            };
      });
    }

-- NO CLAUSE

pub empty_state : (path : Path) (s : State) (clauses : List NumberedClause) → path.vars ≤ 1000000 → path.entries ≡ [] → clauses ≡ [] → s.watches.items ≡ [] → s.waiting.items ≡ []
    → s.lists.lists ≡ replicate (2 * path.vars + 2) [] → s.lists.rows ≡ replicate (2 * path.vars + 2) [] → s.lists.counts ≡ replicate (2 * path.vars + 2) 0 → s.satisfied ≡ 0 → s.head ≡ 0 → s.marks.items ≡ [] → path.vars ≤ vec_capacity s.marks
    → IsState clauses path s
unfolding is_trail
empty_state path s clauses few none no_clause watches waiting lists rows counts satisfied head marks room =
    let count : length s.marks.items ≡ 0 = ap length marks in
    let level : present_level path.entries ≡ 0 = ap present_level none in
    subst (λ (cs : List NumberedClause). IsState cs path s) (sym no_clause) (record {
      propagation = record {
        vars = le-leb path.vars max_vars few;
        clauses = refl;
        numbers = refl;
        trail = subst (λ (t : List Entry). is_trail path.vars [] t ≡ true) (sym none) refl;
      };
      known = record {
        linked = subst (λ (ws : List Watch). IsLinked path.vars [] ws s.lists s.waiting.items) (sym watches)
            (subst (λ (ps : List ℕ). IsLinked path.vars [] [] s.lists ps) (sym waiting) (none_linked path.vars s.lists lists counts));
        blocked = subst (λ (rows : List (List Watcher)). AreBlocked [] rows) (sym rows) (blocked_none [] (2 * path.vars + 2));
        satisfied = omega (arith, satisfied);
        head = omega (arith, head);
        marks = count ∙ sym level;
        marks_room = room;
        rising = λ j k lt under. absurd (omega (arith, under, count));
        upheld = record { waiting = λ n lt. absurd (omega (arith, lt, satisfied)); ready = λ p lt out. absurd (omega (arith, lt)) };
        below = λ j lt. absurd (omega (arith, lt, level));
      };
    })
