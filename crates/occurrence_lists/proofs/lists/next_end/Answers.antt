use Rattle.std.proofs.Common.{◌+◌}
use Rattle.lk_model.proofs.Cuts.{end_le}
use Rattle.occurrence_lists.proofs.Parts.{next_end}
use Rattle.occurrence_lists.proofs.lists.next_end.Goals as goal

pub returns-clause-order : goal.returns-clause-order
returns-clause-order c = next_end c.args.ends.now c.args.stop c.args.k c.requires.ends c.requires.place

pub returns-clause-within : goal.returns-clause-within
returns-clause-within c = end_le 0 c.args.ends.now c.args.stop (c.args.k + 1) c.requires.ends c.requires.place
