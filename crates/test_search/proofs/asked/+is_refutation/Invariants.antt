use Rattle.std.proofs.Common.{length}
use Rattle.test_search.proofs.asked.+is_refutation.Given as goal

abbrev pub decreases-is_refutation : goal.decreases-is_refutation
decreases-is_refutation l = length l.steps.now
