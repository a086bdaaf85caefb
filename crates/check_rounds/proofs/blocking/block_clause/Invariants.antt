use Rattle.std.proofs.Common.{take}
use Rattle.check_rounds.specs.Blocking.{BlocksClause}
use Rattle.check_rounds.proofs.blocking.block_clause.Given as goal

-- the variables of the literals so far
abbrev pub invariant-loop-l : goal.invariant-loop-l
invariant-loop-l l = BlocksClause l.n l.k (take l.l-index l.clause) l.fn.table l.table
