use Rattle.std.proofs.Common.{◌∙◌, ◌++◌, ◌∷◌, [], List, ℕ, ap, arith}
use Rattle.unit_refutations.proofs.Walks.{starts_at, is_left, reason_bounds, goes_back_at, leads}
use Rattle.unit_refutations.proofs.chain.chain_from.Goals as goal

pub places-init : goal.places-init
places-init c = starts_at c.args.over.now c.args.trail.now c.args.conflict c.clause.result.now c.new-turns.result.items c.push.new.self c.new-pending.result c.meet.new.self
    c.requires.crossed c.clause.ensures.value c.clause.ensures.clause c.requires.conflict c.new-turns.ensures.items
    (c.in_ok-push.ensures.ok ∙ ap (λ (ps : List ℕ). ps ++ c.args.conflict ∷ []) c.new-used.ensures) c.new-pending.ensures c.in_ok-meet.ensures

pub reason-reason-requires : goal.reason-reason-requires
reason-reason-requires c =
    let x = (is_left c.args.over.now c.args.trail.now c.args.conflict c.places.turns.items c.places.used c.places.pending c.take_last.new.self c.in-Some.place c.requires.reasoned
    c.places.invariant c.in-Some.ensures.some).1 in
    let came = x.forced.came in
    let same = c.requires.reasoned.same in
    omega (arith, came, same)

pub lit-requires : goal.lit-requires
lit-requires c =
    (is_left c.args.over.now c.args.trail.now c.args.conflict c.places.turns.items c.places.used c.places.pending c.take_last.new.self c.in-Some.place c.requires.reasoned
    c.places.invariant c.in-Some.ensures.some).1.forced.came

pub clause-requires-in-Some-clause-first : goal.clause-requires-in-Some-clause-first
clause-requires-in-Some-clause-first c =
    let x = is_left c.args.over.now c.args.trail.now c.args.conflict c.places.turns.items c.places.used c.places.pending c.take_last.new.self c.in-Some.place c.requires.reasoned
    c.places.invariant c.in-Some.ensures.some in
    let first = (reason_bounds c.args.over.now c.args.trail.now c.in-Some.place x.0 c.requires.crossed x.1).0 in
    let is = c.reason-reason.ensures in
    omega (arith, first, is)

pub clause-requires-in-Some-clause-last : goal.clause-requires-in-Some-clause-last
clause-requires-in-Some-clause-last c =
    let x = is_left c.args.over.now c.args.trail.now c.args.conflict c.places.turns.items c.places.used c.places.pending c.take_last.new.self c.in-Some.place c.requires.reasoned
    c.places.invariant c.in-Some.ensures.some in
    let last = (reason_bounds c.args.over.now c.args.trail.now c.in-Some.place x.0 c.requires.crossed x.1).1 in
    let is = c.reason-reason.ensures in
    omega (arith, last, is)

pub places-smaller : goal.places-smaller
places-smaller c =
    (goes_back_at c.args.over.now c.args.trail.now c.args.conflict c.places.turns.items c.push-in-Some.new.self.items c.places.used c.push-in-Some-2.new.self c.places.pending
    c.take_last.new.self c.meet-in-Some.new.self c.in-Some.place c.reason-reason.result c.from.result c.lit.result c.negated.result c.clause-in-Some.result.now
    c.requires.crossed c.requires.reasoned c.clause-in-Some.ensures.value c.clause-in-Some.ensures.clause c.places.invariant c.in-Some.ensures.some c.lit.ensures c.reason-reason.ensures
    c.negated.ensures c.from.ensures c.in_ok-push-2.ensures.items c.in_ok-push-3.ensures.ok c.in_ok-meet-2.ensures).less

pub places-preserved : goal.places-preserved
places-preserved c =
    (goes_back_at c.args.over.now c.args.trail.now c.args.conflict c.places.turns.items c.push-in-Some.new.self.items c.places.used c.push-in-Some-2.new.self c.places.pending
    c.take_last.new.self c.meet-in-Some.new.self c.in-Some.place c.reason-reason.result c.from.result c.lit.result c.negated.result c.clause-in-Some.result.now
    c.requires.crossed c.requires.reasoned c.clause-in-Some.ensures.value c.clause-in-Some.ensures.clause c.places.invariant c.in-Some.ensures.some c.lit.ensures c.reason-reason.ensures
    c.negated.ensures c.from.ensures c.in_ok-push-2.ensures.items c.in_ok-push-3.ensures.ok c.in_ok-meet-2.ensures).way

pub returns : goal.returns
returns c = leads c.args.over.now c.args.trail.now c.args.conflict (record { turns = c.places.turns; used = c.places.used }) c.places.pending c.in_default.ensures.none c.places.invariant
