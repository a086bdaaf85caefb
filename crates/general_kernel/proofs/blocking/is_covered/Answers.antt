use Rattle.lk_model.proofs.Rising.{rising_bounds}
use Rattle.general_kernel.proofs.blocking.is_covered.Goals as goal

pub clause-requires-clause-first : goal.clause-requires-clause-first
clause-requires-clause-first c = (rising_bounds 0 _ _ c.loop-place.place c.requires.part c.loop-place-test.true).0

pub clause-requires-clause-last : goal.clause-requires-clause-last
clause-requires-clause-last c = (rising_bounds 0 _ _ c.loop-place.place c.requires.part c.loop-place-test.true).1
