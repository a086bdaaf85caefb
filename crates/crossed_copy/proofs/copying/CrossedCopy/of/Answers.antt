use Rattle.crossed_copy.proofs.PartCopies.{in_part}
use Rattle.crossed_copy.proofs.copying.CrossedCopy.of.Goals as goal

pub copy_of-requires-clause-positions : goal.copy_of-requires-clause-positions
copy_of-requires-clause-positions c =
    in_part c.args.over.now c.in_ok-short_ones.field-0.items c.in_order-positions.result.items c.in_ok-short_ones.ensures c.in_order-positions.ensures
