use Rattle.std.proofs.Common.{◌++◌, take}
use Rattle.refutation_log.specs.SameClause.{HaveSame}
use Rattle.refutation_log.proofs.chain_clause.FlaggedClause.put_all.Given as goal

abbrev pub invariant-loop-l : goal.invariant-loop-l
invariant-loop-l l = HaveSame l.self (l.fn.self ++ take l.l-index l.clause)
