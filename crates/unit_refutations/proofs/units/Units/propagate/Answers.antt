use Rattle.std.proofs.Common.{◌∙◌, ap, arith}
use Rattle.unit_refutations.specs.Trails.{unset}
use Rattle.unit_refutations.proofs.Keeping.{asked_ranks, kept_put, put_fewer}
use Rattle.unit_refutations.proofs.units.Units.propagate.Goals as goal

pub put-requires-clause-rank : goal.put-requires-clause-rank
put-requires-clause-rank c =
    let e = c.in-Forced.ensures in
    (asked_ranks c.args.f.now c.args.blocked.now c.next_found.new.self.trail c.in-Forced.position c.in-Forced.l e.kept.reasoned.size e.found.clause e.found.look).0

pub put-requires-clause-other : goal.put-requires-clause-other
put-requires-clause-other c =
    let e = c.in-Forced.ensures in
    (asked_ranks c.args.f.now c.args.blocked.now c.next_found.new.self.trail c.in-Forced.position c.in-Forced.l e.kept.reasoned.size e.found.clause e.found.look).1

pub found-smaller : goal.found-smaller
found-smaller c =
    let e = c.in-Forced.ensures in
    let small = (asked_ranks c.args.f.now c.args.blocked.now c.next_found.new.self.trail c.in-Forced.position c.in-Forced.l e.kept.reasoned.size e.found.clause e.found.look).0 in
    let fewer = put_fewer c.next_found.new.self.trail c.put.new.self.trail c.in-Forced.l small e.found.look.1 c.in_ok-put-in-Forced.ensures.places in
    let same = ap unset e.trail in
    omega (arith, fewer, same)

pub found-preserved : goal.found-preserved
found-preserved c =
    let e = c.in-Forced.ensures in
    let p = c.in_ok-put-in-Forced.ensures in
    record {
      kept = kept_put c.args.f.now c.args.blocked.now c.next_found.new.self.lists _ c.next_found.new.self.agenda.inside _ c.next_found.new.self.trail _ c.in-Forced.l c.in-Forced.position
          e.kept e.found.clause e.found.inside e.found.look p.lists p.inside p.lits p.reasons p.places;
      inside = p.inside ∙ e.inside ∙ c.found.invariant.inside;
    }
