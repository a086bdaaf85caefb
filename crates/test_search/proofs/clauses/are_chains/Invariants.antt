use Rattle.std.proofs.Common.{[], take, IsTrue}
use Rattle.refutation_log.proofs.ChainNames.{state_clauses}
use Rattle.test_search.proofs.clauses.are_chains.Given as goal

abbrev pub invariant-loop-i : goal.invariant-loop-i
invariant-loop-i l = IsTrue (state_clauses l.over [] (take l.i l.steps))
