use Rattle.std.proofs.Common.{length}
use Rattle.test_search.proofs.clauses.+step_clause.Given as goal

abbrev pub decreases-step_clause : goal.decreases-step_clause
decreases-step_clause l = length l.steps.now
