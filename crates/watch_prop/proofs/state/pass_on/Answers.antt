use Rattle.std.proofs.lemmas.Grind.{common_steps}
use Rattle.std.proofs.Common.{◌≡◌, ◌∙◌, ◌<◌, List, length, get_or, ap, arith, ℤ, pos}
use Rattle.watch_prop.specs.declared.state.Settled.TheVariants.{Stays, Moves}
use Rattle.watch_prop.proofs.Passing.{passing_start, passing_stays, passing_moves, passing_end, picked, settled_once, conflict_named}
use Rattle.watch_prop.proofs.States.{leads_then}
use Rattle.watch_prop.proofs.Paths.{length-literals}
use Rattle.std.proofs.lemmas.List.{get_or_read, length-map}
use Rattle.watch_prop.specs.declared.watcher_lists.Watcher.{Watcher}
use Rattle.lk_model.specs.Formulas.Literal.{complement}
use Rattle.watch_prop.proofs.state.pass_on.Goals as goal

pub watchers-init : goal.watchers-init
watchers-init c =
    let lits = c.lits.result.now in
    let head = c.args.state.now.head in
    let long : length lits ≡ length c.args.trail.now.entries = ap length c.lits.ensures.value ∙ length-literals c.args.trail.now.entries in
    let within : head < length lits = omega (arith, long, c.requires.more) in
    let read = get_or_read lits head c.index-lits-state.result within c.index-lits-state.is (pos 0) ∙ ap (λ (ls : List ℤ). get_or ls head (pos 0)) c.lits.ensures.value in
    passing_start c.args.clauses.now c.args.trail.now c.args.state.now c.negated-l.result c.requires.state c.requires.more (c.negated-l.ensures ∙ ap complement read)

pub settle-requires-clause-place : goal.settle-requires-clause-place
settle-requires-clause-place c =
    (picked c.args.clauses.now c.args.trail.now c.watchers.trail c.args.state.now c.watchers.state c.negated-l.result c.watchers.at c.of.result.now c.of-in-watchers.result.now
    _ c.watchers.invariant c.of.ensures.places c.of-in-watchers.ensures.row c.of-in-watchers.ensures.places c.watchers-test.true c.index-of-at.is).in_clauses

pub watchers-preserved-in-Stays : goal.watchers-preserved-in-Stays
watchers-preserved-in-Stays c =
    let p = picked c.args.clauses.now c.args.trail.now c.watchers.trail c.args.state.now c.watchers.state c.negated-l.result c.watchers.at c.of.result.now c.of-in-watchers.result.now
    _ c.watchers.invariant c.of.ensures.places c.of-in-watchers.ensures.row c.of-in-watchers.ensures.places c.watchers-test.true c.index-of-at.is in
    passing_stays c.args.clauses.now c.args.trail.now c.watchers.trail c.settle.new.trail c.args.state.now c.watchers.state c.settle.new.state _ c.negated-l.result c.watchers.at
    (settled_once _ _ _ _ _ _ _ _ _ _ Stays c.watchers.invariant p c.in-Stays.ensures.leads c.in-Stays.ensures.settles)

pub watchers-preserved : goal.watchers-preserved
watchers-preserved c =
    let p = picked c.args.clauses.now c.args.trail.now c.watchers.trail c.args.state.now c.watchers.state c.negated-l.result c.watchers.at c.of.result.now c.of-in-watchers.result.now
    _ c.watchers.invariant c.of.ensures.places c.of-in-watchers.ensures.row c.of-in-watchers.ensures.places c.watchers-test.true c.index-of-at.is in
    passing_moves c.args.clauses.now c.args.trail.now c.watchers.trail c.settle.new.trail c.args.state.now c.watchers.state c.settle.new.state _ c.negated-l.result c.watchers.at
    (settled_once _ _ _ _ _ _ _ _ _ _ Moves c.watchers.invariant p c.in-Moves.ensures.leads c.in-Moves.ensures.settles)

pub returns-clause-leads : goal.returns-clause-leads
returns-clause-leads c =
    passing_end c.args.clauses.now c.args.trail.now c.watchers.trail c.args.state.now c.watchers.state c.negated-l.result c.watchers.at c.watchers.invariant
    (omega (arith, c.watchers-test.false, ap length c.of.ensures.places, length-map c.of.result.now (λ (w : Watcher). w.place)))

pub number-requires : goal.number-requires
number-requires c =
    (picked c.args.clauses.now c.args.trail.now c.watchers.trail c.args.state.now c.watchers.state c.negated-l.result c.watchers.at c.of.result.now c.of-in-watchers.result.now
    _ c.watchers.invariant c.of.ensures.places c.of-in-watchers.ensures.row c.of-in-watchers.ensures.places c.watchers-test.true c.index-of-at.is).in_clauses

pub returns-in-IsFalse-clause-leads : goal.returns-in-IsFalse-clause-leads
returns-in-IsFalse-clause-leads c =
    leads_then c.args.clauses.now c.args.trail.now c.watchers.trail c.settle.new.trail c.args.state.now c.watchers.state c.settle.new.state
    c.watchers.invariant.leads c.in-IsFalse.ensures.leads

pub returns-in-IsFalse-clause-done : goal.returns-in-IsFalse-clause-done
returns-in-IsFalse-clause-done c =
    let p = picked c.args.clauses.now c.args.trail.now c.watchers.trail c.args.state.now c.watchers.state c.negated-l.result c.watchers.at c.of.result.now c.of-in-watchers.result.now
    _ c.watchers.invariant c.of.ensures.places c.of-in-watchers.ensures.row c.of-in-watchers.ensures.places c.watchers-test.true c.index-of-at.is in
    conflict_named c.args.clauses.now c.settle.new.trail c.settle.new.state _ c.number.result c.in-IsFalse.ensures.leads.state p.in_clauses c.number.ensures
    c.in-IsFalse.ensures.settles.settled

pub settle-requires-clause-blocker : goal.settle-requires-clause-blocker
settle-requires-clause-blocker c =
    (picked c.args.clauses.now c.args.trail.now c.watchers.trail c.args.state.now c.watchers.state c.negated-l.result c.watchers.at c.of.result.now c.of-in-watchers.result.now
    _ c.watchers.invariant c.of.ensures.places c.of-in-watchers.ensures.row c.of-in-watchers.ensures.places c.watchers-test.true c.index-of-at.is).blocker

pub settle-requires-clause-row : goal.settle-requires-clause-row
settle-requires-clause-row c =
    (picked c.args.clauses.now c.args.trail.now c.watchers.trail c.args.state.now c.watchers.state c.negated-l.result c.watchers.at c.of.result.now c.of-in-watchers.result.now
    _ c.watchers.invariant c.of.ensures.places c.of-in-watchers.ensures.row c.of-in-watchers.ensures.places c.watchers-test.true c.index-of-at.is).row

pub settle-requires-clause-stands : goal.settle-requires-clause-stands
settle-requires-clause-stands c =
    (picked c.args.clauses.now c.args.trail.now c.watchers.trail c.args.state.now c.watchers.state c.negated-l.result c.watchers.at c.of.result.now c.of-in-watchers.result.now
    _ c.watchers.invariant c.of.ensures.places c.of-in-watchers.ensures.row c.of-in-watchers.ensures.places c.watchers-test.true c.index-of-at.is).stands

pub lits-requires : goal.lits-requires
lits-requires c = grind (arith, common_steps)

pub offset_bounds-lits-state : goal.offset_bounds-lits-state
offset_bounds-lits-state c = grind (arith, common_steps)

pub bounds-lits-state : goal.bounds-lits-state
bounds-lits-state c = grind (arith, common_steps)

pub negated-l-requires : goal.negated-l-requires
negated-l-requires c = grind (arith, common_steps)

pub of-requires : goal.of-requires
of-requires c = grind (arith, common_steps)

pub of-requires-in-watchers : goal.of-requires-in-watchers
of-requires-in-watchers c = grind (arith, common_steps)

pub offset_bounds-of-at : goal.offset_bounds-of-at
offset_bounds-of-at c = grind (arith, common_steps)

pub bounds-of-at : goal.bounds-of-at
bounds-of-at c = grind (arith, common_steps)

pub overflow_cast-place : goal.overflow_cast-place
overflow_cast-place c = grind (arith, common_steps)

pub settle-requires-clause-state : goal.settle-requires-clause-state
settle-requires-clause-state c = grind (arith, common_steps)

pub settle-requires-clause-within : goal.settle-requires-clause-within
settle-requires-clause-within c = grind (arith, common_steps)

pub settle-requires-clause-head : goal.settle-requires-clause-head
settle-requires-clause-head c = grind (arith, common_steps)

pub settle-requires-clause-literal : goal.settle-requires-clause-literal
settle-requires-clause-literal c = grind (arith, common_steps)

pub overflow_add-at : goal.overflow_add-at
overflow_add-at c = grind (arith, common_steps)

pub watchers-smaller-in-Stays : goal.watchers-smaller-in-Stays
watchers-smaller-in-Stays c = grind (arith, common_steps)

pub watchers-smaller : goal.watchers-smaller
watchers-smaller c = grind (arith, common_steps)

pub returns-in-IsFalse-clause-unseen : goal.returns-in-IsFalse-clause-unseen
returns-in-IsFalse-clause-unseen c = grind (arith, common_steps)

pub overflow_add-state : goal.overflow_add-state
overflow_add-state c = grind (arith, common_steps)

pub returns-clause-unseen : goal.returns-clause-unseen
returns-clause-unseen c = grind (arith, common_steps)

pub returns-clause-done : goal.returns-clause-done
returns-clause-done c = grind (arith, common_steps)
