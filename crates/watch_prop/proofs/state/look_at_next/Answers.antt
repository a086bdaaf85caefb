use Rattle.std.proofs.Common.{◌≡◌, ◌∙◌, ◌<◌, ℕ, List, ℤ, true, length, sym, ap, subst, arith}
use Rattle.std.specs.List.{list_all}
use Rattle.std.proofs.lemmas.List.{get_or_read}
use Rattle.lk_model.specs.Formulas.Literal.{is_literal}
use Rattle.watch_prop.specs.Linked.{clause_at_place}
use Rattle.watch_prop.proofs.Passing.{conflict_named}
use Rattle.watch_prop.proofs.Demands.{forced, may_be_forced}
use Rattle.watch_prop.proofs.Listing.{is_free}
use Rattle.watch_prop.proofs.Looking.{IsNext, next_within, next_literals, seen, lists, listed_leads, only_one, only_leads}
use Rattle.watch_prop.proofs.States.{stays_leads}
use Rattle.watch_prop.proofs.state.look_at_next.Goals as goal

pub lits-requires : goal.lits-requires
lits-requires c =
    let next : IsNext c.args.clauses.now c.args.trail.now c.args.state.now = record { state = c.requires.state; more = c.requires.more } in
    subst (λ (n : ℕ). n < length c.args.clauses.now) (sym (get_or_read c.args.state.now.waiting.items c.args.state.now.satisfied c.index.result.now c.requires.more c.index.ensures 0))
    (next_within c.args.clauses.now c.args.trail.now c.args.state.now next)

pub find-requires : goal.find-requires
find-requires c =
    let clauses = c.args.clauses.now in
    let s = c.args.state.now in
    let next : IsNext clauses c.args.trail.now s = record { state = c.requires.state; more = c.requires.more } in
    let place = get_or_read s.waiting.items s.satisfied c.index.result.now c.requires.more c.index.ensures 0 in
    subst (λ (ls : List ℤ). list_all (is_literal c.args.trail.now.vars) ls ≡ true) (sym (c.lits.ensures ∙ ap (λ (n : ℕ). (clause_at_place clauses n).lits) place))
    (next_literals clauses c.args.trail.now s next)

pub list_next-requires-clause-first : goal.list_next-requires-clause-first
list_next-requires-clause-first c =
    let x = seen _ _ _ _ _ _ _ (record { state = c.requires.state; more = c.requires.more }) c.index.ensures c.lits.ensures c.find.ensures c.in-Two.is in
    (is_free _ _ _ _ _ _ _ _ (lists _ _ _ c.in-Two.watch x.next x.found) c.in-Two.watch.first x.found.0).rank

pub list_next-requires-clause-second : goal.list_next-requires-clause-second
list_next-requires-clause-second c =
    let x = seen _ _ _ _ _ _ _ (record { state = c.requires.state; more = c.requires.more }) c.index.ensures c.lits.ensures c.find.ensures c.in-Two.is in
    (is_free _ _ _ _ _ _ _ _ (lists _ _ _ c.in-Two.watch x.next x.found) c.in-Two.watch.second x.found.1).rank

pub list_next-requires-clause-first_room : goal.list_next-requires-clause-first_room
list_next-requires-clause-first_room c =
    let x = seen _ _ _ _ _ _ _ (record { state = c.requires.state; more = c.requires.more }) c.index.ensures c.lits.ensures c.find.ensures c.in-Two.is in
    (is_free _ _ _ _ _ _ _ _ (lists _ _ _ c.in-Two.watch x.next x.found) c.in-Two.watch.first x.found.0).room

pub list_next-requires-clause-second_room : goal.list_next-requires-clause-second_room
list_next-requires-clause-second_room c =
    let x = seen _ _ _ _ _ _ _ (record { state = c.requires.state; more = c.requires.more }) c.index.ensures c.lits.ensures c.find.ensures c.in-Two.is in
    (is_free _ _ _ _ _ _ _ _ (lists _ _ _ c.in-Two.watch x.next x.found) c.in-Two.watch.second x.found.1).room

pub force-requires-clause-literal : goal.force-requires-clause-literal
force-requires-clause-literal c =
    let x = seen _ _ _ _ _ _ _ (record { state = c.requires.state; more = c.requires.more }) c.index.ensures c.lits.ensures c.find.ensures c.in-One.is in
    (may_be_forced _ _ _ _ _ _ c.requires.state (only_one _ _ _ _ x.next x.found) (c.number-in-One.ensures ∙ ap (λ (n : ℕ). (clause_at_place c.args.clauses.now n).number) x.place_is)).literal

pub force-requires-clause-comes : goal.force-requires-clause-comes
force-requires-clause-comes c =
    let x = seen _ _ _ _ _ _ _ (record { state = c.requires.state; more = c.requires.more }) c.index.ensures c.lits.ensures c.find.ensures c.in-One.is in
    (may_be_forced _ _ _ _ _ _ c.requires.state (only_one _ _ _ _ x.next x.found) (c.number-in-One.ensures ∙ ap (λ (n : ℕ). (clause_at_place c.args.clauses.now n).number) x.place_is)).comes

pub returns-in-AllFalse-clause-done : goal.returns-in-AllFalse-clause-done
returns-in-AllFalse-clause-done c =
    let x = seen _ _ _ _ _ _ _ (record { state = c.requires.state; more = c.requires.more }) c.index.ensures c.lits.ensures c.find.ensures c.in-AllFalse.is in
    conflict_named _ _ _ _ _ c.requires.state (next_within _ _ _ x.next) (c.number.ensures ∙ ap (λ (n : ℕ). (clause_at_place c.args.clauses.now n).number) x.place_is) x.found

pub returns-in-Two-clause-leads : goal.returns-in-Two-clause-leads
returns-in-Two-clause-leads c =
    let x = seen _ _ _ _ _ _ _ (record { state = c.requires.state; more = c.requires.more }) c.index.ensures c.lits.ensures c.find.ensures c.in-Two.is in
    let e = c.list_next.ensures in
    listed_leads _ _ _ _ _ x.next x.found (record {
      watches = e.watches;
      lists = e.lists;
      rows = e.rows;
      counts = e.counts;
      waiting = e.waiting;
      keeps = record { satisfied = e.satisfied; head = e.head; marks = e.marks };
    })

pub returns-in-One-clause-leads : goal.returns-in-One-clause-leads
returns-in-One-clause-leads c =
    let x = seen _ _ _ _ _ _ _ (record { state = c.requires.state; more = c.requires.more }) c.index.ensures c.lits.ensures c.find.ensures c.in-One.is in
    only_leads _ _ _ _ _ x.next x.found (forced _ _ _ _ _ _ _ c.requires.state (only_one _ _ _ _ x.next x.found) (c.number-in-One.ensures ∙ ap (λ (n : ℕ). (clause_at_place c.args.clauses.now n).number) x.place_is) c.force.ensures)

pub number-requires : goal.number-requires
number-requires c =
    let next : IsNext c.args.clauses.now c.args.trail.now c.args.state.now = record { state = c.requires.state; more = c.requires.more } in
    subst (λ (n : ℕ). n < length c.args.clauses.now) (sym (get_or_read c.args.state.now.waiting.items c.args.state.now.satisfied c.index.result.now c.requires.more c.index.ensures 0))
    (next_within c.args.clauses.now c.args.trail.now c.args.state.now next)

pub number-requires-in-One : goal.number-requires-in-One
number-requires-in-One c =
    let next : IsNext c.args.clauses.now c.args.trail.now c.args.state.now = record { state = c.requires.state; more = c.requires.more } in
    subst (λ (n : ℕ). n < length c.args.clauses.now) (sym (get_or_read c.args.state.now.waiting.items c.args.state.now.satisfied c.index.result.now c.requires.more c.index.ensures 0))
    (next_within c.args.clauses.now c.args.trail.now c.args.state.now next)

pub list_next-requires-clause-next : goal.list_next-requires-clause-next
list_next-requires-clause-next c = c.requires.more

pub list_next-requires-clause-place : goal.list_next-requires-clause-place
list_next-requires-clause-place c =
    let within = next_within c.args.clauses.now c.args.trail.now c.args.state.now (record { state = c.requires.state; more = c.requires.more }) in
    omega (arith, within, c.requires.state.known.linked.places)

pub returns-in-AllFalse-clause-leads : goal.returns-in-AllFalse-clause-leads
returns-in-AllFalse-clause-leads c = stays_leads c.args.clauses.now c.args.trail.now c.args.state.now c.requires.state

pub returns-in-One-clause-done : goal.returns-in-One-clause-done
returns-in-One-clause-done c = omega (arith, c.requires.more)
