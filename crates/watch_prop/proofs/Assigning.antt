-- A literal that is assigned where nothing is forced.
use Rattle.std.proofs.Common.{◌≡◌, ◌∙◌, ℕ, ◌+◌, ◌<◌, ◌≤◌, ◌==◌, ◌++◌, ◌∷◌, [], Bool, true, false, not, ◌&&◌, List, ℤ, Some, None, Option, is_some, length, length-append, take, refl, sym, ap, subst, arith, inl, inr, Vec, vec_capacity}
use Rattle.std.specs.declared.alloc.Global.{Global}
use Rattle.std.specs.Option.{option_map_or}
use Rattle.std.specs.List.{list_all}
use Rattle.std.proofs.lemmas.Bool.{cases_eq, not-true}
use Rattle.std.proofs.lemmas.List.{append-nil, take-append-le, take_all, get_or_append_left, get_or_push}
use Rattle.lk_model.specs.Lists.{is_empty}
use Rattle.lk_model.specs.Formulas.Literal.{variable, is_literal, is_clause}
use Rattle.lk_model.proofs.Booleans.{and_true}
use Rattle.watch_prop.specs.declared.entry.Entry.{Entry}
use Rattle.watch_prop.specs.declared.entry.NumberedClause.{NumberedClause}
use Rattle.watch_prop.specs.declared.entry.Propagated.{Propagated}
use Rattle.watch_prop.specs.declared.entry.Propagated.TheVariants.{Quiet, Conflict}
use Rattle.watch_prop.specs.declared.state.State.{State}
use Rattle.watch_prop.specs.Trail.{Path, entry_of, present_level, up_to_level, clause_numbered, forces, has_reason, may_come, may_follow, is_path, is_trail}
use Rattle.watch_prop.specs.declared.watch.Watch.{Watch}
use Rattle.watch_prop.specs.Watchers.{Watchers}
use Rattle.watch_prop.specs.Linked.{IsLinked, AreBlocked}
use Rattle.watch_prop.specs.Propagation.{Propagation, IsPropagation, GoesOn, assigned, is_quiet}
use Rattle.lk_model.specs.Formulas.Units.{is_false, is_unit_under}
use Rattle.watch_prop.specs.States.{IsState, IsKnown, IsKnownBelow, AreUpheld, Leads, Passes, propagation_of, mark_at, unseen}
use Rattle.watch_prop.proofs.Paths.{comes, last_level, back_there, same_path}
use Rattle.watch_prop.proofs.Trails.{trail_path, propagation_more, may_open, first_follows}
use Rattle.watch_prop.proofs.States.{more_upheld, same_upheld}
use Rattle.watch_prop.proofs.Levels.{level_more}
use Rattle.watch_prop.proofs.Units.{each_numbered, forces_unit}

-- NOTHING IS FORCED WHERE ALL IS QUIET

quiet_forces_none : (p : Propagation) (e : Entry) → IsPropagation p → is_quiet (assigned p) p.clauses ≡ true → may_follow p.vars p.clauses p.trail e ≡ true → is_some e.reason ≡ true → ⊥
quiet_forces_none p e h quiet may forced = at e.reason forced reason
  where
    parts : (may_come p.vars p.trail e ≡ true) × (has_reason p.clauses p.trail e ≡ true)
    parts = and_true (may_come p.vars p.trail e) (has_reason p.clauses p.trail e) may

    reason : option_map_or (λ k. option_map_or (λ c. forces c p.trail e.lit) (clause_numbered p.clauses k) false) e.reason true ≡ true
    reason = parts.1

    by_clause : (k : ℕ) (o : Option (List ℤ)) → clause_numbered p.clauses k ≡ o → option_map_or (λ c. forces c p.trail e.lit) o false ≡ true → ⊥
    by_clause k None found f = (let z : ⊥ = cc in z)
    by_clause k (Some c) found f =
        let q : List ℤ → Bool = λ c. not (is_false (assigned p) c) && not (is_unit_under (assigned p) c) in
        let still = each_numbered q p.clauses k c quiet found in
        let clause = each_numbered (λ c. not (is_empty c) && is_clause p.vars c) p.clauses k c h.clauses found in
        let unit = forces_unit p.vars p.trail c e.lit (trail_path p.vars p.clauses p.trail h.trail) (and_true (not (is_empty c)) (is_clause p.vars c) clause).1 f
        (comes p.vars p.trail e parts.0).absent in
        let none = not-true (is_unit_under (assigned p) c) (and_true (not (is_false (assigned p) c)) (not (is_unit_under (assigned p) c)) still).1 in
        let z : true ≡ false = sym unit ∙ none in let y : ⊥ = cc in y

    at : (r : Option ℕ) → is_some r ≡ true → option_map_or (λ k. option_map_or (λ c. forces c p.trail e.lit) (clause_numbered p.clauses k) false) r true ≡ true → ⊥
    at None s f = (let z : ⊥ = cc in z)
    at (Some k) s f = by_clause k (clause_numbered p.clauses k) refl f

-- so the trail stays
pub quiet_stays : (p q : Propagation) → IsPropagation p → IsPropagation q → GoesOn p q → is_quiet (assigned p) p.clauses ≡ true → q.trail ≡ p.trail
quiet_stays p q h h' g quiet = at g.forced g.trail g.levels
  where
    at : (forced : List Entry) → q.trail ≡ p.trail ++ forced → list_all (λ (e : Entry). e.level == present_level p.trail && is_some e.reason) forced ≡ true → q.trail ≡ p.trail
    at [] t levels = t ∙ append-nil p.trail
    at (e ∷ more) t levels =
        let whole : is_trail p.vars p.clauses (p.trail ++ e ∷ more) ≡ true =
        subst (λ (t : List Entry). is_trail p.vars p.clauses t ≡ true) t (subst (λ (n : ℕ). is_trail n p.clauses q.trail ≡ true) g.vars
        (subst (λ (cs : List NumberedClause). is_trail q.vars cs q.trail ≡ true) g.clauses h'.trail)) in
        let head = and_true (e.level == present_level p.trail && is_some e.reason) _ levels in
        absurd (quiet_forces_none p e h quiet (first_follows p.vars p.clauses p.trail e more whole) (and_true (e.level == present_level p.trail) (is_some e.reason) head.0).1)

-- and it ends quiet
pub quiet_done : (p : Propagation) (result : Propagated) (wanted : Type 0) (clauses : List NumberedClause) (path : Path) → is_quiet (assigned p) p.clauses ≡ true
    → p ≡ propagation_of clauses path → Passes clauses path result wanted → wanted
quiet_done p Quiet wanted clauses path quiet same h = h
quiet_done p (Conflict k) wanted clauses path quiet same h = absurd (at (clause_numbered clauses k) refl h)
  where
    quiet_there : is_quiet (assigned (propagation_of clauses path)) clauses ≡ true
    quiet_there = subst (λ (q : Propagation). is_quiet (assigned q) q.clauses ≡ true) same quiet

    at : (o : Option (List ℤ)) → clause_numbered clauses k ≡ o → option_map_or (is_false (assigned (propagation_of clauses path))) o false ≡ true → ⊥
    at None found f = (let z : ⊥ = cc in z)
    at (Some c) found f =
        let φ = assigned (propagation_of clauses path) in
        let still = each_numbered (λ c. not (is_false φ c) && not (is_unit_under φ c)) clauses k c quiet_there found in
        let none = not-true (is_false φ c) (and_true (not (is_false φ c)) (not (is_unit_under φ c)) still).0 in
        let z : true ≡ false = sym f ∙ none in let y : ⊥ = cc in y

-- A NEW LEVEL

mark_more : (marks : List ℕ) (n level : ℕ) → level < length marks → mark_at (marks ++ n ∷ []) level ≡ mark_at marks level
mark_more marks n level lt = get_or_append_left marks (n ∷ []) 0 level lt

mark_last : (marks : List ℕ) (n : ℕ) → mark_at (marks ++ n ∷ []) (length marks) ≡ n
mark_last marks n = get_or_push marks n 0 (length marks) refl

-- the state with a literal that opens a level, where all was passed on
pub record Opens (clauses : List NumberedClause) (path : Path) (s s' : State) (e : Entry) : Type 0 where
  pub state : IsState clauses path s
  pub all_seen : unseen s ≡ 0
  pub all_passed : s.head ≡ length path.entries
  pub may : may_follow path.vars clauses path.entries e ≡ true
  pub level : e.level ≡ present_level path.entries + 1
  pub watches : s'.watches ≡ s.watches
  pub lists : s'.lists ≡ s.lists
  pub waiting : s'.waiting ≡ s.waiting
  pub satisfied : s'.satisfied ≡ s.satisfied
  pub head : s'.head ≡ s.head
  pub marks : s'.marks.items ≡ s.marks.items ++ length s.waiting.items ∷ []
  pub capacity : vec_capacity s'.marks ≡ vec_capacity s.marks

opened_upheld : (clauses : List NumberedClause) (path : Path) (s s' : State) (e : Entry) (trail passed : List Entry) (count : ℕ) → Opens clauses path s s' e
    → AreUpheld clauses s trail passed count → AreUpheld clauses s' trail passed count
opened_upheld clauses path s s' e trail passed count o h =
    same_upheld clauses s s' trail passed count (ap (λ (v : Vec Watch Global). v.items) o.watches) (ap (λ (v : Vec ℕ Global). v.items) o.waiting) h

opened_below : (clauses : List NumberedClause) (path : Path) (s s' : State) (e : Entry) (level : ℕ) → Opens clauses path s s' e → level < e.level
    → IsKnownBelow clauses (path.entries ++ e ∷ []) s' level
opened_below clauses path s s' e level o under = elim (cases_eq level (present_level path.entries)) [
  | inl same ↦
      let trail = path.entries in
      let up : up_to_level level (trail ++ e ∷ []) ≡ trail = level_more level trail e under ∙ back_there path.vars trail level p (omega (arith, same)) in
      let mark : mark_at s'.marks.items level ≡ length s.waiting.items =
      ap (λ (ms : List ℕ). mark_at ms level) o.marks ∙ ap (mark_at (s.marks.items ++ length s.waiting.items ∷ [])) (same ∙ sym old.marks) ∙ mark_last s.marks.items (length s.waiting.items) in
      let all : mark_at s'.marks.items level ≡ s.satisfied = (let n = o.all_seen in let w = old.satisfied in omega (arith, mark, n, w)) in
      let passed : take s.head trail ≡ trail = take_all s.head trail (let n = o.all_passed in omega (arith, n)) in
      record {
        mark = omega (arith, all, o.satisfied);
        passed = subst (λ (t : List Entry). length t ≤ s'.head) (sym up) (omega (arith, o.head, o.all_passed));
        upheld = subst (λ (t : List Entry). AreUpheld clauses s' t t (mark_at s'.marks.items level)) (sym up)
            (subst (λ (n : ℕ). AreUpheld clauses s' trail trail n) (sym all)
            (opened_upheld clauses path s s' e trail trail s.satisfied o (subst (λ (t : List Entry). AreUpheld clauses s trail t s.satisfied) passed old.upheld)));
      }
  | inr apart ↦
      let lower : level < present_level path.entries = omega (arith, apart, under, o.level) in
      let b = old.below level lower in
      let up = sym (level_more level path.entries e under) in
      let mark : mark_at s'.marks.items level ≡ mark_at s.marks.items level =
      ap (λ (ms : List ℕ). mark_at ms level) o.marks ∙ mark_more s.marks.items (length s.waiting.items) level (omega (arith, lower, old.marks)) in
      record {
        mark = omega (arith, mark, b.mark, o.satisfied);
        passed = subst (λ (t : List Entry). length t ≤ s'.head) up (omega (arith, b.passed, o.head));
        upheld = subst (λ (t : List Entry). AreUpheld clauses s' t t (mark_at s'.marks.items level)) up
            (subst (λ (n : ℕ). AreUpheld clauses s' (up_to_level level path.entries) (up_to_level level path.entries) n) (sym mark)
            (opened_upheld clauses path s s' e (up_to_level level path.entries) (up_to_level level path.entries) (mark_at s.marks.items level) o b.upheld));
      }
]
  where
    old : IsKnown path.vars clauses path.entries s
    old = o.state.known

    p : is_path path.vars path.entries ≡ true
    p = trail_path path.vars clauses path.entries o.state.propagation.trail

opened_rising : (marks : List ℕ) (n : ℕ) → ((j k : ℕ) → j < k → k < length marks → mark_at marks j ≤ mark_at marks k) → ((j : ℕ) → j < length marks → mark_at marks j ≤ n)
    → (j k : ℕ) → j < k → k < length (marks ++ n ∷ []) → mark_at (marks ++ n ∷ []) j ≤ mark_at (marks ++ n ∷ []) k
opened_rising marks n rising most j k lt within = elim (cases_eq k (length marks)) [
  | inl same ↦
      let last : mark_at (marks ++ n ∷ []) k ≡ n = ap (mark_at (marks ++ n ∷ [])) same ∙ mark_last marks n in
      let under : j < length marks = omega (arith, lt, same) in
      let here = mark_more marks n j under in
      let m = most j under in
      omega (arith, last, here, m)
  | inr apart ↦
      let long = length-append marks (n ∷ []) in
      let inside : k < length marks = omega (arith, within, long, apart) in
      let a = mark_more marks n j (omega (arith, lt, inside)) in
      let b = mark_more marks n k inside in
      let r = rising j k lt inside in
      omega (arith, a, b, r)
]

pub opened_state : (clauses : List NumberedClause) (path path' : Path) (s s' : State) (e : Entry) → Opens clauses path s s' e → path' ≡ record path { entries = path.entries ++ e ∷ [] }
    → IsState clauses path' s'
opened_state clauses path path' s s' e o made =
    let old = o.state.known in
    let trail = path.entries in
    let n = length s.waiting.items in
    let last = last_level trail e in
    let long = length-append trail (e ∷ []) in
    let more = length-append s.marks.items (n ∷ []) in
    let count : length s'.marks.items ≡ length (s.marks.items ++ n ∷ []) = ap length o.marks in
    let waiting : s'.waiting.items ≡ s.waiting.items = ap (λ (v : Vec ℕ Global). v.items) o.waiting in
    subst (λ (p : Path). IsState clauses p s') (sym made) (record {
      propagation = propagation_more (propagation_of clauses path) e o.state.propagation o.may;
      known = record {
        linked = subst (λ (ps : List ℕ). IsLinked path.vars clauses s'.watches.items s'.lists ps) (sym waiting)
            (subst (λ (ws : Vec Watch Global). IsLinked path.vars clauses ws.items s'.lists s.waiting.items) (sym o.watches)
            (subst (λ (ls : Watchers). IsLinked path.vars clauses s.watches.items ls s.waiting.items) (sym o.lists) old.linked));
        blocked = subst (λ (ls : Watchers). AreBlocked clauses ls.rows) (sym o.lists) old.blocked;
        satisfied = (let same = ap length waiting in omega (arith, o.satisfied, old.satisfied, same));
        head = omega (arith, o.head, old.head, long);
        marks = omega (arith, count, more, old.marks, last, o.level);
        marks_room = omega (arith, o.capacity, old.marks_room);
        rising = subst (λ (ms : List ℕ). (j k : ℕ) → j < k → k < length ms → mark_at ms j ≤ mark_at ms k) (sym o.marks)
            (opened_rising s.marks.items n old.rising (λ j lt. (let b = old.below j (omega (arith, lt, old.marks)) in omega (arith, b.mark, old.satisfied))));
        upheld = subst (λ (h : ℕ). AreUpheld clauses s' (trail ++ e ∷ []) (take h (trail ++ e ∷ [])) s'.satisfied) (sym o.head)
            (subst (λ (h : ℕ). AreUpheld clauses s' (trail ++ e ∷ []) (take s.head (trail ++ e ∷ [])) h) (sym o.satisfied)
            (subst (λ (t : List Entry). AreUpheld clauses s' (trail ++ e ∷ []) t s.satisfied) (sym (take-append-le s.head trail (e ∷ []) old.head))
            (more_upheld clauses s' trail (e ∷ []) (take s.head trail) s.satisfied (opened_upheld clauses path s s' e trail (take s.head trail) s.satisfied o old.upheld))));
        below = λ level lt. opened_below clauses path s s' e level o (omega (arith, lt, last));
      };
    })

-- what is known where a literal is assigned: nothing was forced, and all was passed on
pub record IsReady (clauses : List NumberedClause) (path path' : Path) (s' : State) (e : Entry) : Type 0 where
  pub same : path' ≡ path
  pub state : IsState clauses path' s'
  pub seen : unseen s' ≡ 0
  pub head : s'.head ≡ length path'.entries
  pub may : may_follow path'.vars clauses path'.entries e ≡ true

pub ready : (clauses : List NumberedClause) (path path' : Path) (s s' : State) (result : Propagated) (e : Entry) → IsState clauses path s → Leads clauses path path' s s'
    → Passes clauses path' result ((unseen s' ≡ 0) × (s'.head ≡ length path'.entries)) → is_quiet (assigned (propagation_of clauses path)) clauses ≡ true
    → is_literal path.vars e.lit ≡ true → entry_of path.entries (variable e.lit) ≡ None → e.level ≡ present_level path'.entries + 1 → e.reason ≡ None
    → IsReady clauses path path' s' e
ready clauses path path' s s' result e h leads done quiet lit none level reason =
    let p = propagation_of clauses path in
    let still : path'.entries ≡ path.entries = quiet_stays p (propagation_of clauses path') h.propagation leads.state.propagation leads.goes_on quiet in
    let same : path' ≡ path = same_path path' path leads.goes_on.vars still in
    let ends = quiet_done p result ((unseen s' ≡ 0) × (s'.head ≡ length path'.entries)) clauses path' quiet (ap (propagation_of clauses) (sym same)) done in
    record {
      same = same;
      state = leads.state;
      seen = ends.0;
      head = ends.1;
      may = may_open path'.vars clauses path'.entries e (subst (λ (q : Path). is_literal q.vars e.lit ≡ true) (sym same) lit)
          (subst (λ (q : Path). entry_of q.entries (variable e.lit) ≡ None) (sym same) none) level reason;
    }
