use Rattle.std.proofs.Common.{◌+◌, ◌-◌, ◌∙◌, arith, length, false, true}
use Rattle.refutation_log.proofs.Marking.{names_at_below, more_marked, none_marked, read_mark, HaveSameShape-trans}
use Rattle.refutation_log.proofs.reach.mark_others.Goals as goal

pub mark_names-requires-clause-names : goal.mark_names-requires-clause-names
mark_names-requires-clause-names g c =
    let m = c.loop-at.marks in
    let shape = c.loop-at.invariant.shape in
    names_at_below c.args.marks.now.first (g.S.Chains.steps c.args.steps.now) (c.loop-at.at - 1) (m.first + length m.steps.items) c.requires.numbers c.requires.names
    (omega (arith, c.loop-at.invariant.within)) (omega (arith, c.loop-at.invariant.within, shape.first, shape.steps, c.requires.count))

pub loop-at-preserved-then-index : goal.loop-at-preserved-then-index
loop-at-preserved-then-index g c =
    let inv = c.loop-at.invariant in
    record {
      within = omega (arith, inv.within);
      shape = HaveSameShape-trans c.args.marks.now c.loop-at.marks c.mark_names.new.marks inv.shape c.mark_names.ensures.shape;
      marks = more_marked (g.S.Chains.steps c.args.steps.now) c.loop-at.at c.loop-at.marks c.mark_names.new.marks
          (rw (inv.shape.first) c.requires.numbers) (inv.shape.steps ∙ c.requires.count) (omega arith) inv.within
          (read_mark c.loop-at.marks.steps.items (c.loop-at.at - 1) c.index.result.now true (omega (arith, inv.within, inv.shape.steps, c.requires.count)) c.index.ensures c.if-index.true) inv.marks c.mark_names.ensures.marks;
    }

pub loop-at-preserved : goal.loop-at-preserved
loop-at-preserved g c =
    let inv = c.loop-at.invariant in
    record {
      within = omega (arith, inv.within);
      shape = inv.shape;
      marks = none_marked (g.S.Chains.steps c.args.steps.now) c.loop-at.at c.loop-at.marks
          (rw (inv.shape.first) c.requires.numbers) (inv.shape.steps ∙ c.requires.count) (omega arith) inv.within
          (read_mark c.loop-at.marks.steps.items (c.loop-at.at - 1) c.index.result.now false (omega (arith, inv.within, inv.shape.steps, c.requires.count)) c.index.ensures c.if-index.false) inv.marks;
    }
