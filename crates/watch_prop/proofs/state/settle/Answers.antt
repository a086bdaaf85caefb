use Rattle.std.proofs.Common.{◌≡◌, ◌∙◌, ℤ, List, true, refl, sym, ap, subst, set, arith}
use Rattle.std.specs.List.{list_all}
use Rattle.lk_model.specs.Formulas.Literal.{is_literal}
use Rattle.lk_model.proofs.Literals.{clause_literals}
use Rattle.watch_prop.specs.declared.state.State.{State}
use Rattle.watch_prop.specs.declared.state.Settled.TheVariants.{Moves}
use Rattle.watch_prop.specs.States.{Leads, Settles}
use Rattle.watch_prop.specs.Linked.{moved_rows, clause_at_place}
use Rattle.watch_prop.proofs.Demands.{Called, clause_of, forced, may_be_forced, moves}
use Rattle.watch_prop.proofs.Linking.{rank_within, room_to_move}
use Rattle.watch_prop.proofs.States.{stays_leads}
use Rattle.watch_prop.proofs.Answering.{reblocked_leads, reblocked_settles, other_is_literal, other_has, blocker_literal, asked, move_leads, move_settles, demands_truth, stays_settled}
use Rattle.watch_prop.proofs.state.settle.Goals as goal

pub is_true-requires-2 : goal.is_true-requires-2
is_true-requires-2 c =
    let r = c.requires in
    let called : Called c.args.clauses.now c.args.trail.now c.args.state.now c.args.place c.args.l c.args.at =
    record { state = r.state; literal = r.literal; within = r.within; stands = r.stands; at_head = r.head; row = r.row } in
    other_is_literal _ _ _ _ _ _ _ called c.other-other.ensures

pub demand_of-requires-clause-other : goal.demand_of-requires-clause-other
demand_of-requires-clause-other c =
    let r = c.requires in
    let called : Called c.args.clauses.now c.args.trail.now c.args.state.now c.args.place c.args.l c.args.at =
    record { state = r.state; literal = r.literal; within = r.within; stands = r.stands; at_head = r.head; row = r.row } in
    other_is_literal _ _ _ _ _ _ _ called c.other-other.ensures

pub shift-requires-clause-to : goal.shift-requires-clause-to
shift-requires-clause-to c =
    let r = c.requires in
    let called : Called c.args.clauses.now c.args.trail.now c.args.state.now c.args.place c.args.l c.args.at =
    record { state = r.state; literal = r.literal; within = r.within; stands = r.stands; at_head = r.head; row = r.row } in
    let demand = asked _ _ _ _ _ _ _ _ _ _ called c.lits-lits.ensures c.other-other.ensures c.demand_of.ensures c.in-Move.is in
    rank_within _ _ _ _ _ _ r.state.known.linked (moves _ _ _ _ _ _ c.in-Move.found _ called demand).to

pub shift-requires-clause-room : goal.shift-requires-clause-room
shift-requires-clause-room c =
    let r = c.requires in
    let called : Called c.args.clauses.now c.args.trail.now c.args.state.now c.args.place c.args.l c.args.at =
    record { state = r.state; literal = r.literal; within = r.within; stands = r.stands; at_head = r.head; row = r.row } in
    let demand = asked _ _ _ _ _ _ _ _ _ _ called c.lits-lits.ensures c.other-other.ensures c.demand_of.ensures c.in-Move.is in
    room_to_move _ _ _ _ _ _ _ _ _ (moves _ _ _ _ _ _ c.in-Move.found _ called demand)

pub force-requires-clause-literal : goal.force-requires-clause-literal
force-requires-clause-literal c =
    let r = c.requires in
    let called : Called c.args.clauses.now c.args.trail.now c.args.state.now c.args.place c.args.l c.args.at =
    record { state = r.state; literal = r.literal; within = r.within; stands = r.stands; at_head = r.head; row = r.row } in
    let demand = asked _ _ _ _ _ _ _ _ _ _ called c.lits-lits.ensures c.other-other.ensures c.demand_of.ensures c.in-Truth.is in
    (may_be_forced _ _ _ _ _ _ r.state (demands_truth _ _ _ _ _ _ _ called demand) c.number.ensures).literal

pub force-requires-clause-comes : goal.force-requires-clause-comes
force-requires-clause-comes c =
    let r = c.requires in
    let called : Called c.args.clauses.now c.args.trail.now c.args.state.now c.args.place c.args.l c.args.at =
    record { state = r.state; literal = r.literal; within = r.within; stands = r.stands; at_head = r.head; row = r.row } in
    let demand = asked _ _ _ _ _ _ _ _ _ _ called c.lits-lits.ensures c.other-other.ensures c.demand_of.ensures c.in-Truth.is in
    (may_be_forced _ _ _ _ _ _ r.state (demands_truth _ _ _ _ _ _ _ called demand) c.number.ensures).comes

pub returns-in-Move-clause-leads : goal.returns-in-Move-clause-leads
returns-in-Move-clause-leads c =
    let r = c.requires in
    let called : Called c.args.clauses.now c.args.trail.now c.args.state.now c.args.place c.args.l c.args.at =
    record { state = r.state; literal = r.literal; within = r.within; stands = r.stands; at_head = r.head; row = r.row } in
    let demand = asked _ _ _ _ _ _ _ _ _ _ called c.lits-lits.ensures c.other-other.ensures c.demand_of.ensures c.in-Move.is in
    subst (λ (s : State). Leads c.args.clauses.now c.args.trail.now c.args.trail.now c.args.state.now s) (sym c.save.ensures) (move_leads _ _ _ _ _ _ c.in-Move.to c.in-Move.found _ called demand (record {
      watches = ap (λ (k : ℤ). set c.args.state.now.watches.items c.args.place (record { first = c.in-Move.to; second = k })) c.other-other.ensures;
      lists = c.shift.ensures.lists;
      rows = c.shift.ensures.rows ∙ ap (λ (k : ℤ). moved_rows c.args.state.now.lists.rows c.args.l c.args.at c.in-Move.to k) c.other-other.ensures;
      counts = c.shift.ensures.counts;
      waiting = refl;
      keeps = record { satisfied = refl; head = refl; marks = refl };
    }))

pub returns-in-Move-clause-settles : goal.returns-in-Move-clause-settles
returns-in-Move-clause-settles c =
    let r = c.requires in
    let called : Called c.args.clauses.now c.args.trail.now c.args.state.now c.args.place c.args.l c.args.at =
    record { state = r.state; literal = r.literal; within = r.within; stands = r.stands; at_head = r.head; row = r.row } in
    let demand = asked _ _ _ _ _ _ _ _ _ _ called c.lits-lits.ensures c.other-other.ensures c.demand_of.ensures c.in-Move.is in
    subst (λ (s : State). Settles c.args.clauses.now c.args.trail.now c.args.trail.now c.args.state.now s c.args.place c.args.l c.args.at Moves) (sym c.save.ensures)
    (move_settles _ _ _ _ _ _ c.in-Move.to c.in-Move.found _ called demand (record {
      watches = ap (λ (k : ℤ). set c.args.state.now.watches.items c.args.place (record { first = c.in-Move.to; second = k })) c.other-other.ensures;
      lists = c.shift.ensures.lists;
      rows = c.shift.ensures.rows ∙ ap (λ (k : ℤ). moved_rows c.args.state.now.lists.rows c.args.l c.args.at c.in-Move.to k) c.other-other.ensures;
      counts = c.shift.ensures.counts;
      waiting = refl;
      keeps = record { satisfied = refl; head = refl; marks = refl };
    }))

pub returns-in-Truth-clause-leads : goal.returns-in-Truth-clause-leads
returns-in-Truth-clause-leads c =
    let r = c.requires in
    let called : Called c.args.clauses.now c.args.trail.now c.args.state.now c.args.place c.args.l c.args.at =
    record { state = r.state; literal = r.literal; within = r.within; stands = r.stands; at_head = r.head; row = r.row } in
    let demand = asked _ _ _ _ _ _ _ _ _ _ called c.lits-lits.ensures c.other-other.ensures c.demand_of.ensures c.in-Truth.is in
    (forced _ _ _ _ _ _ _ r.state (demands_truth _ _ _ _ _ _ _ called demand) c.number.ensures c.force.ensures).leads

pub returns-in-Truth-clause-settles : goal.returns-in-Truth-clause-settles
returns-in-Truth-clause-settles c =
    let r = c.requires in
    let called : Called c.args.clauses.now c.args.trail.now c.args.state.now c.args.place c.args.l c.args.at =
    record { state = r.state; literal = r.literal; within = r.within; stands = r.stands; at_head = r.head; row = r.row } in
    let demand = asked _ _ _ _ _ _ _ _ _ _ called c.lits-lits.ensures c.other-other.ensures c.demand_of.ensures c.in-Truth.is in
    let made = forced _ _ _ _ _ _ _ r.state (demands_truth _ _ _ _ _ _ _ called demand) c.number.ensures c.force.ensures in
    stays_settled _ _ _ _ _ _ _ _ (demands_truth _ _ _ _ _ _ _ called demand).has_it made.truth

pub is_true-requires : goal.is_true-requires
is_true-requires c =
    let r = c.requires in
    let called : Called c.args.clauses.now c.args.trail.now c.args.state.now c.args.place c.args.l c.args.at =
    record { state = r.state; literal = r.literal; within = r.within; stands = r.stands; at_head = r.head; row = r.row } in
    blocker_literal _ _ _ _ _ _ _ called r.blocker

pub returns-then-is_true-clause-settles : goal.returns-then-is_true-clause-settles
returns-then-is_true-clause-settles c =
    stays_settled c.args.clauses.now c.args.trail.now c.args.trail.now c.args.state.now c.args.place c.args.l c.args.blocker c.args.at c.requires.blocker (sym c.is_true.ensures ∙ c.if-is_true.true)

pub block-requires-clause-rank : goal.block-requires-clause-rank
block-requires-clause-rank c = rank_within _ _ _ _ _ _ c.requires.state.known.linked c.requires.literal

pub returns-then-is_true-2-clause-leads : goal.returns-then-is_true-2-clause-leads
returns-then-is_true-2-clause-leads c =
    let r = c.requires in
    let called : Called c.args.clauses.now c.args.trail.now c.args.state.now c.args.place c.args.l c.args.at =
    record { state = r.state; literal = r.literal; within = r.within; stands = r.stands; at_head = r.head; row = r.row } in
    reblocked_leads _ _ _ _ _ _ _ _ called (other_has _ _ _ _ _ _ _ called c.other-other.ensures) (record {
      watches = refl;
      lists = c.block.ensures.lists;
      rows = c.block.ensures.rows;
      counts = c.block.ensures.counts;
      waiting = refl;
      keeps = record { satisfied = refl; head = refl; marks = refl };
    })

pub returns-then-is_true-2-clause-settles : goal.returns-then-is_true-2-clause-settles
returns-then-is_true-2-clause-settles c =
    let r = c.requires in
    let called : Called c.args.clauses.now c.args.trail.now c.args.state.now c.args.place c.args.l c.args.at =
    record { state = r.state; literal = r.literal; within = r.within; stands = r.stands; at_head = r.head; row = r.row } in
    reblocked_settles _ _ _ _ _ _ _ _ (other_has _ _ _ _ _ _ _ called c.other-other.ensures) (sym c.is_true-2.ensures ∙ c.if-is_true-2.true) (record {
      watches = refl;
      lists = c.block.ensures.lists;
      rows = c.block.ensures.rows;
      counts = c.block.ensures.counts;
      waiting = refl;
      keeps = record { satisfied = refl; head = refl; marks = refl };
    })

pub returns-then-is_true-clause-leads : goal.returns-then-is_true-clause-leads
returns-then-is_true-clause-leads c = stays_leads c.args.clauses.now c.args.trail.now c.args.state.now c.requires.state

pub other-other-requires : goal.other-other-requires
other-other-requires c = omega (arith, c.requires.place, c.requires.state.known.linked.places)

pub block-requires-clause-within : goal.block-requires-clause-within
block-requires-clause-within c = c.requires.within

pub lits-lits-requires : goal.lits-lits-requires
lits-lits-requires c = c.requires.place

pub demand_of-requires-clause-lits : goal.demand_of-requires-clause-lits
demand_of-requires-clause-lits c =
    let clause = clause_of _ _ _ _ c.requires.state c.requires.place in
    subst (λ (ls : List ℤ). list_all (is_literal c.args.trail.now.vars) ls ≡ true) (sym c.lits-lits.ensures)
    (clause_literals c.args.trail.now.vars (clause_at_place c.args.clauses.now c.args.place).lits clause)

pub index_mut-requires : goal.index_mut-requires
index_mut-requires c = omega (arith, c.requires.place, c.requires.state.known.linked.places)

pub shift-requires-clause-from : goal.shift-requires-clause-from
shift-requires-clause-from c = rank_within _ _ _ _ _ _ c.requires.state.known.linked c.requires.literal

pub shift-requires-clause-apart : goal.shift-requires-clause-apart
shift-requires-clause-apart c =
    let r = c.requires in
    let called : Called c.args.clauses.now c.args.trail.now c.args.state.now c.args.place c.args.l c.args.at =
    record { state = r.state; literal = r.literal; within = r.within; stands = r.stands; at_head = r.head; row = r.row } in
    let demand = asked _ _ _ _ _ _ _ _ _ _ called c.lits-lits.ensures c.other-other.ensures c.demand_of.ensures c.in-Move.is in
    λ same. (moves _ _ _ _ _ _ c.in-Move.found _ called demand).not_it (sym same)

pub shift-requires-clause-within : goal.shift-requires-clause-within
shift-requires-clause-within c = c.requires.within

pub number-requires : goal.number-requires
number-requires c = c.requires.place

pub returns-in-Conflict-clause-leads : goal.returns-in-Conflict-clause-leads
returns-in-Conflict-clause-leads c = stays_leads c.args.clauses.now c.args.trail.now c.args.state.now c.requires.state

pub returns-in-Conflict-clause-settles : goal.returns-in-Conflict-clause-settles
returns-in-Conflict-clause-settles c =
    let r = c.requires in
    let called : Called c.args.clauses.now c.args.trail.now c.args.state.now c.args.place c.args.l c.args.at =
    record { state = r.state; literal = r.literal; within = r.within; stands = r.stands; at_head = r.head; row = r.row } in
    let demand = asked _ _ _ _ _ _ _ _ _ _ called c.lits-lits.ensures c.other-other.ensures c.demand_of.ensures c.in-Conflict.is in
    record { waiting = refl; satisfied = refl; head = refl; others = λ p n. refl; settled = demand; list = tt }
