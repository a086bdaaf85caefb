use Rattle.crossed_copy.proofs.ToldRefutations.{told_literals}
use Rattle.crossed_copy.proofs.copying.CrossedCopy.learned.Goals as goal

pub are_learned-requires-clause-literals : goal.are_learned-requires-clause-literals
are_learned-requires-clause-literals c =
    told_literals c.args.over.now c.args.last c.args.refutation _ c.as_slice.result.now c.in_ok-told.ensures c.as_slice.ensures
