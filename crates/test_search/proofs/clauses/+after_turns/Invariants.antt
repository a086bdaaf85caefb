use Rattle.std.proofs.Common.{length}
use Rattle.test_search.proofs.clauses.+after_turns.Given as goal

abbrev pub decreases-after_turns : goal.decreases-after_turns
decreases-after_turns l = length l.turns.now
