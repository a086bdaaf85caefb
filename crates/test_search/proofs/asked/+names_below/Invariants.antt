use Rattle.std.proofs.Common.{length}
use Rattle.test_search.proofs.asked.+names_below.Given as goal

abbrev pub decreases-names_below : goal.decreases-names_below
decreases-names_below l = length l.steps.now
