use Rattle.std.proofs.Common.{sym}
use Rattle.lk_model.proofs.Cuts.{cut_at}
use Rattle.watch_prop.proofs.clauses.list_at.Goals as goal

pub returns : goal.returns
returns c = rw c.begin_at-begin.ensures.value (sym (cut_at 0 c.args.lits.now c.args.ends.now c.args.k c.requires.place))
