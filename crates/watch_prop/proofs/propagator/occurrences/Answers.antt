use Rattle.std.proofs.Common.{length}
use Rattle.lk_model.proofs.Rising.{rising_bounds}
use Rattle.watch_prop.proofs.propagator.occurrences.Goals as goal

pub clause-requires-clause-first : goal.clause-requires-clause-first
clause-requires-clause-first c = (rising_bounds 0 (length c.args.over.now.formula.now.clauses) c.args.over.now.part.now c.loop-p.p-index c.requires.part c.loop-p-test.true).0

pub clause-requires-clause-last : goal.clause-requires-clause-last
clause-requires-clause-last c = (rising_bounds 0 (length c.args.over.now.formula.now.clauses) c.args.over.now.part.now c.loop-p.p-index c.requires.part c.loop-p-test.true).1
