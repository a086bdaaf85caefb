use Rattle.std.proofs.Common.{take}
use Rattle.check_tables.specs.LiteralSets.{IsSetOf}
use Rattle.check_tables.proofs.literal_set.LiteralSet.of.Given as goal

-- the set of the literals so far
abbrev pub invariant-loop-l : goal.invariant-loop-l
invariant-loop-l l = IsSetOf l.n (take l.l-index l.literals) l.set
