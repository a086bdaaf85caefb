use Rattle.lk_model.proofs.Rising.{rising_bounds}
use Rattle.variable_orders.proofs.points.Points.new.Goals as goal

pub size_of-size-requires-clause-first : goal.size_of-size-requires-clause-first
size_of-size-requires-clause-first c = (rising_bounds 0 _ _ c.loop-position.position-index c.requires.part c.loop-position-test.true).0

pub size_of-size-requires-clause-last : goal.size_of-size-requires-clause-last
size_of-size-requires-clause-last c = (rising_bounds 0 _ _ c.loop-position.position-index c.requires.part c.loop-position-test.true).1
