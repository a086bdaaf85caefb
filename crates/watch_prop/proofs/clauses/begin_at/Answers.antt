use Rattle.std.proofs.Common.{arith}
use Rattle.lk_model.proofs.Cuts.{end_le, begin_le, begin_of-after}
use Rattle.watch_prop.proofs.clauses.begin_at.Goals as goal

pub returns-then-k-eq0-clause-within : goal.returns-then-k-eq0-clause-within
returns-then-k-eq0-clause-within c = end_le 0 c.args.ends.now c.args.stop c.args.k c.requires.ends c.requires.place

pub returns-else-k-eq0-clause-order : goal.returns-else-k-eq0-clause-order
returns-else-k-eq0-clause-order c =
    omega (arith, begin_of-after 0 c.args.ends.now c.args.k c.if-k-eq0.false, begin_le 0 c.args.ends.now c.args.stop c.args.k c.requires.ends c.requires.place)

pub returns-else-k-eq0-clause-within : goal.returns-else-k-eq0-clause-within
returns-else-k-eq0-clause-within c = end_le 0 c.args.ends.now c.args.stop c.args.k c.requires.ends c.requires.place
