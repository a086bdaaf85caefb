use Rattle.std.proofs.Common.{length, arith, ◌∙◌}
use Rattle.exact_pivot.proofs.Costs.{rows_begun, rows_step, rows_far}
use Rattle.exact_pivot.proofs.start.subtract_rows.Goals as goal

pub loop-row-init : goal.loop-row-init
loop-row-init c = c.requires.none ∙ rows_begun (length c.args.sums.now)

pub subtract-requires-clause-far : goal.subtract-requires-clause-far
subtract-requires-clause-far c = rows_far c.args.rows.now c.loop-row.row-index (length c.args.sums.now) c.loop-row.sums c.loop-row.invariant c.requires.small c.requires.count

pub loop-row-preserved : goal.loop-row-preserved
loop-row-preserved c =
    rows_step c.args.rows.now c.loop-row.row-index (length c.args.sums.now) c.row-item.result c.entries.result.now c.loop-row.sums c.subtract.new.sums (omega arith) c.row-item.is c.entries.ensures c.loop-row.invariant c.subtract.ensures
