use Rattle.std.proofs.Common.{sym}
use Rattle.occurrence_lists.proofs.Parts.{cut_at}
use Rattle.occurrence_lists.proofs.lists.list_at.Goals as goal

pub returns : goal.returns
returns c = rw c.begin_at-begin.ensures.value (sym (cut_at 0 c.args.positions.now c.args.ends.now c.args.k c.requires.place))
