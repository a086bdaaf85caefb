use Rattle.std.proofs.Common.{◌≡◌, ◌∙◌, ℕ, ◌+◌, ◌≤◌, ◌++◌, ◌∷◌, [], None, length, length-append, refl, sym, ap, subst, arith, IsTrue, IsNone, vec_len}
use Rattle.lk_model.specs.Formulas.Literal.{variable, is_literal}
use Rattle.watch_prop.specs.declared.entry.Entry.{Entry}
use Rattle.watch_prop.specs.Trail.{Path, entry_of, present_level}
use Rattle.watch_prop.specs.Propagation.{Propagation, assigned, is_quiet, with_assigned}
use Rattle.watch_prop.specs.States.{propagation_of}
use Rattle.watch_prop.proofs.Paths.{present_le}
use Rattle.watch_prop.proofs.Trails.{trail_path, may_come_of, unset_none}
use Rattle.watch_prop.proofs.Assigning.{ready, opened_state}
use Rattle.watch_prop.proofs.propagator.Propagator.assign.Goals as goal

pub put-requires : goal.put-requires
put-requires c =
    let clauses = c.self.inside.clauses in
    let e : Entry = record { lit = c.args.l; level = c.level-level.result + 1; reason = None } in
    let level : e.level ≡ present_level c.propagate-quiet.new.trail.entries + 1 = ap (λ (n : ℕ). n + 1) c.level-level.ensures.value in
    let quiet = subst (λ (q : Propagation). IsTrue (is_quiet (assigned q) q.clauses)) (sym c.self.view_is) c.requires.quiet in
    let lit = subst (λ (q : Propagation). IsTrue (is_literal q.vars c.args.l)) (sym c.self.view_is) c.requires.within in
    let unset = subst (λ (q : Propagation). IsNone (assigned q (variable c.args.l))) (sym c.self.view_is) c.requires.unset in
    let leads = c.propagate-quiet.ensures.leads in
    let done = c.propagate-quiet.ensures.done in
    let r = ready clauses c.self.inside.trail c.propagate-quiet.new.trail c.self.inside.state c.propagate-quiet.new.state c.propagate-quiet.result e c.self.invariant
    leads done quiet lit (unset_none (entry_of c.self.inside.trail.entries (variable c.args.l)) unset) level refl in
    may_come_of c.propagate-quiet.new.trail.vars clauses c.propagate-quiet.new.trail.entries e r.may

pub push_reserved-requires : goal.push_reserved-requires
push_reserved-requires c =
    let clauses = c.self.inside.clauses in
    let path = c.propagate-quiet.new.trail in
    let w = c.propagate-quiet.new.state in
    let state = c.propagate-quiet.ensures.leads.state in
    let e : Entry = record { lit = c.args.l; level = c.level-level.result + 1; reason = None } in
    let low = present_le path.vars path.entries (trail_path path.vars clauses path.entries state.propagation.trail) in
    let room : length (path.entries ++ e ∷ []) ≤ path.vars = subst (λ (p : Path). length p.entries ≤ p.vars) c.put.ensures.value c.put.ensures.room in
    let more = length-append path.entries (e ∷ []) in
    let count : vec_len w.marks ≡ length w.marks.items = w.marks.ok.0 in
    omega (arith, low, room, more, count, state.known.marks, state.known.marks_room)

pub invariant_of-self : goal.invariant_of-self
invariant_of-self c =
    let clauses = c.self.inside.clauses in
    let e : Entry = record { lit = c.args.l; level = c.level-level.result + 1; reason = None } in
    let level : e.level ≡ present_level c.propagate-quiet.new.trail.entries + 1 = ap (λ (n : ℕ). n + 1) c.level-level.ensures.value in
    let quiet = subst (λ (q : Propagation). IsTrue (is_quiet (assigned q) q.clauses)) (sym c.self.view_is) c.requires.quiet in
    let lit = subst (λ (q : Propagation). IsTrue (is_literal q.vars c.args.l)) (sym c.self.view_is) c.requires.within in
    let unset = subst (λ (q : Propagation). IsNone (assigned q (variable c.args.l))) (sym c.self.view_is) c.requires.unset in
    let leads = c.propagate-quiet.ensures.leads in
    let done = c.propagate-quiet.ensures.done in
    let r = ready clauses c.self.inside.trail c.propagate-quiet.new.trail c.self.inside.state c.propagate-quiet.new.state c.propagate-quiet.result e c.self.invariant
    leads done quiet lit (unset_none (entry_of c.self.inside.trail.entries (variable c.args.l)) unset) level refl in
    let count : c.len.result ≡ length c.propagate-quiet.new.state.waiting.items = c.len.ensures ∙ c.propagate-quiet.new.state.waiting.ok.0 in
    opened_state clauses c.propagate-quiet.new.trail c.put.new.self c.propagate-quiet.new.state _ e
    (record {
      state = r.state;
      all_seen = r.seen;
      all_passed = r.head;
      may = r.may;
      level = level;
      watches = refl;
      lists = refl;
      waiting = refl;
      satisfied = refl;
      head = refl;
      marks = c.push_reserved.ensures.items ∙ ap (λ (n : ℕ). c.propagate-quiet.new.state.marks.items ++ n ∷ []) count;
      capacity = c.push_reserved.ensures.capacity;
    }) c.put.ensures.value

pub returns : goal.returns
returns c =
    let clauses = c.self.inside.clauses in
    let e : Entry = record { lit = c.args.l; level = c.level-level.result + 1; reason = None } in
    let level : e.level ≡ present_level c.propagate-quiet.new.trail.entries + 1 = ap (λ (n : ℕ). n + 1) c.level-level.ensures.value in
    let quiet = subst (λ (q : Propagation). IsTrue (is_quiet (assigned q) q.clauses)) (sym c.self.view_is) c.requires.quiet in
    let lit = subst (λ (q : Propagation). IsTrue (is_literal q.vars c.args.l)) (sym c.self.view_is) c.requires.within in
    let unset = subst (λ (q : Propagation). IsNone (assigned q (variable c.args.l))) (sym c.self.view_is) c.requires.unset in
    let leads = c.propagate-quiet.ensures.leads in
    let done = c.propagate-quiet.ensures.done in
    let r = ready clauses c.self.inside.trail c.propagate-quiet.new.trail c.self.inside.state c.propagate-quiet.new.state c.propagate-quiet.result e c.self.invariant
    leads done quiet lit (unset_none (entry_of c.self.inside.trail.entries (variable c.args.l)) unset) level refl in
    let at : ℕ → Path → Propagation = λ n p. propagation_of clauses (record p { entries = p.entries ++ (record { lit = c.args.l; level = n; reason = None }) ∷ [] }) in
    ap (propagation_of clauses) c.put.ensures.value
    ∙ ap (λ (n : ℕ). at n c.propagate-quiet.new.trail) level
    ∙ ap (λ (p : Path). at (present_level p.entries + 1) p) r.same
    ∙ ap (λ (q : Propagation). with_assigned q c.args.l) c.self.view_is
