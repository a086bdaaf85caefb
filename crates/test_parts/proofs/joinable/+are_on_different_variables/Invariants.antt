use Rattle.std.proofs.Common.{length}
use Rattle.test_parts.proofs.joinable.+are_on_different_variables.Given as goal

abbrev pub decreases-are_on_different_variables : goal.decreases-are_on_different_variables
decreases-are_on_different_variables l = length l.lits.now
