use Rattle.std.proofs.Common.{length}
use Rattle.test_search.proofs.asked.+turns_below.Given as goal

abbrev pub decreases-turns_below : goal.decreases-turns_below
decreases-turns_below l = length l.turns.now
