use Rattle.lk_model.proofs.Rising.{rising_bounds}
use Rattle.variable_orders.proofs.occurrences.counts.Goals as goal

pub count-requires-clause-first : goal.count-requires-clause-first
count-requires-clause-first c = (rising_bounds 0 _ _ c.loop-position.position-index c.requires.part c.loop-position-test.true).0

pub count-requires-clause-last : goal.count-requires-clause-last
count-requires-clause-last c = (rising_bounds 0 _ _ c.loop-position.position-index c.requires.part c.loop-position-test.true).1
